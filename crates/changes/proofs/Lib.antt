-- Laws of what good commands do: for callers, and of their own proofs.
pub mod Laws
