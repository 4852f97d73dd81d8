-- A screen's parameters, and the conversions between the three units.
pub mod Parameters
pub mod Units
