-- Laws and theorems of the machine's rules.
pub mod Cases
pub mod Soundness
pub mod Theorems
pub mod Unused
pub mod Words
