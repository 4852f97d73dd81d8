-- Laws that callers of `control` use, and laws of its own proofs.
pub mod Laws
pub mod Fields
