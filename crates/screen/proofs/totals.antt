-- Laws that callers of `screen` use.
pub mod Laws
pub mod Counts
