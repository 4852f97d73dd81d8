-- The owner's demands, proved.
pub mod Reached
pub mod Unused
pub mod Palettes
pub mod ByTheRules
pub mod First
pub mod Paper
pub mod Second
pub mod Third
pub mod Counted
