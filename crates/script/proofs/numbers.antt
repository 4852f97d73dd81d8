-- Laws of a command's numbers.
mod Cases
