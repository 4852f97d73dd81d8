-- Laws of bytes given as numbers.
pub mod Laws
