-- Laws of an ear.
mod Cases
pub mod Near
