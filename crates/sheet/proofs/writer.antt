-- Laws of writing that callers use, and what its proofs rest on.
pub mod Laws
pub mod Cases
