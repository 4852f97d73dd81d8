-- Laws of a whole frame, and the theorems: a frame is its ticks.
pub mod Place
pub mod Some
pub mod Gather
pub mod Rows
pub mod Whole
pub mod Demand
pub mod Places
pub mod Plain
pub mod Totals
pub mod Bench
