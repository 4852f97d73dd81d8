-- The statements of the starred rows and of the interlaced bench screen.
pub mod Starred
pub mod Interlaced
