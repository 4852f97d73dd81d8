-- Laws of names.
mod Cases
