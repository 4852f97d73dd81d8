-- The machine after the script's register writes, and what the script shows.
pub mod Started
pub mod Shown
