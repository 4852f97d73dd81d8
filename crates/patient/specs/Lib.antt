-- A patient's lines, the levels in them, and the thresholds of both ears.
pub mod Patient
pub mod Examples
pub mod Levels
pub mod Thresholds
