-- A whole picture: its promise in the words of the ticks; then what the code that draws it works with, on plain numbers.
pub mod Picture
pub mod Machines
pub mod Plan
pub mod Span
pub mod Stretch
