-- Laws of the chain of a write.
pub mod Passed
