-- Laws of painted stretches: for callers, and of the proofs here.
pub mod Spans
