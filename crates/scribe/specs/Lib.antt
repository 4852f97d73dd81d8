-- The lines of the script that draws a chart.
pub mod Ending
pub mod Pokes
pub mod Settings
