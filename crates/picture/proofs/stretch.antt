-- Laws of stretches: for callers, and of the proofs here.
pub mod Clips
