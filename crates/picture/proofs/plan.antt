-- Laws of a frame on plain numbers: its size, and its segments.
pub mod Sizes
pub mod Segments
