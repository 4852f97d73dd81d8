-- Laws of the audiogram's picture.
pub mod Cases
pub mod Laying
pub mod Places
pub mod Theorems
