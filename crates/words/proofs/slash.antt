-- Laws of a `/` by itself.
mod Cases
