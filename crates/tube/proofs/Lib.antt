-- Laws of the script that draws a patient's chart.
pub mod Reached
pub mod Colours
pub mod Frame
pub mod Same
