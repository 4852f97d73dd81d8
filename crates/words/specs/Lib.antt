-- The words of a line, numbers, and the faults of a line.
pub mod Words
pub mod Faults
pub mod Numbers
pub mod Slash
