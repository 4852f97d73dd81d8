-- Laws of a whole picture: for callers, and of its own proofs.
pub mod Laws
pub mod Closed
pub mod Machines
