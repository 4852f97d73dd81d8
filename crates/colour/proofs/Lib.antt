-- Laws that callers of `colour` use, and laws of its own proofs.
pub mod Laws
pub mod Cases
