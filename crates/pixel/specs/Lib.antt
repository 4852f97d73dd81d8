-- The rules of a pixel put out and its checksums.
pub mod Dot
pub mod Sums
