-- Laws that callers of `registers` use, and the cases of its own functions.
pub mod Laws
pub mod Cases
