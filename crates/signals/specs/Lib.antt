-- What goes out at a tick.
pub mod Signals
