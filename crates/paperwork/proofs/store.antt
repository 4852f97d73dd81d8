-- Laws of a sheet's values.
mod Cases
