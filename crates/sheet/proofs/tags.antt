-- Laws of the tags and of an encoding.
pub mod Laws
