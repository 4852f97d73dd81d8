-- Laws of numbers.
mod Digits
