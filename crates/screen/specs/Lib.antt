-- When a screen may start, what a frame of it comes to, and the bench screen.
pub mod Range
pub mod Limits
pub mod Totals
pub mod Bench
