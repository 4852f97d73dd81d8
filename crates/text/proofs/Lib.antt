-- Laws of numbers as text.
mod Decimal
