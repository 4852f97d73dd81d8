-- Laws of what a line does, of what is shown of it, and of an interlaced picture's file.
mod Laws
mod Showing
pub mod Woven
