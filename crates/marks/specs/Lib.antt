-- An ear's marks and lines, and points.
pub mod Marks
pub mod Ear
pub mod Near
pub mod Points
