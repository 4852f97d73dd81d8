-- What the measured calls answer.
pub mod Speed
pub mod Ticks
