-- Laws that callers of `vault` use, and what its own proofs share.
mod Cases
pub mod Laws
