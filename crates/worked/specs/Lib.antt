-- The starred rows of document 01, and an interlaced screen by document 02.
pub mod Table
pub mod Starred
pub mod Interlaced
