-- The definitions that every rule uses.
pub mod Sum
pub mod Count
pub mod Channels
