-- Laws of lines that are cut out of pieces.
mod Taking
