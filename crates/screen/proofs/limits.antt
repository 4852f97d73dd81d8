-- Laws that callers of `limits` use.
pub mod Laws
