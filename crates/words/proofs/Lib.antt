-- Laws of the words of a line.
mod Parting
