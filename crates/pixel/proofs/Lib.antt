-- Laws that callers of `pixel` use.
pub mod Laws
