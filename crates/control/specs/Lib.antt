-- The rules of control A.
pub mod Control
