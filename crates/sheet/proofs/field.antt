-- Laws of one field by its tag.
pub mod Laws
