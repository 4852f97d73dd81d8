-- Text that programs write: numbers, rows of them, and the head of a PPM.
pub mod Ascii
pub mod Decimal
pub mod Lines
pub mod Hex
pub mod Ppm
pub mod Rows
