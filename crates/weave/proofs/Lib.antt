-- Laws of a weave: places, each pixel once, a row as the code puts it.
pub mod Places
pub mod Once
mod Rows
