-- Laws of the map that callers use, and what they rest on.
pub mod Laws
pub mod Cases
