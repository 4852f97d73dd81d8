-- Laws of where a tick stands.
pub mod Bounds
pub mod Stands
