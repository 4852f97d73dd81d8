-- What the proofs of `sheet` share.
mod Cases
pub mod Laws
