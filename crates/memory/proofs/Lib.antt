-- Laws that callers of `memory` use, and laws of its own proofs.
pub mod Laws
pub mod Bytes
pub mod Cases
