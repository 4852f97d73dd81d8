-- The rules of the checksums to compare.
pub mod Nine
pub mod Compare
