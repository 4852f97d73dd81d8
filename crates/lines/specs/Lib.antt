-- The rules of lines and frames.
pub mod Lines
pub mod Narrow
