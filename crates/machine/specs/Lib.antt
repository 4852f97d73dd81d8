-- The machine's rules: writing, reading and ticking, what a write is refused for, the checksum words, and the one condition.
pub mod Rules
pub mod Access
pub mod Words
pub mod Calls
pub mod Alike
pub mod Conditions
