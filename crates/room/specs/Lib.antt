-- Lent bytes: texts put into them, and numbers as bytes.
pub mod Room
pub mod Bytes
