-- The rules of picture memory: a pixel out of packed bytes, and where the memory ends.
pub mod Memory
