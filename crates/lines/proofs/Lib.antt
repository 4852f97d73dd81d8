-- Laws of lines and frames.
pub mod Moments
pub mod Halves
