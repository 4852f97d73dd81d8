-- Laws of the memory lent.
pub mod Cases
