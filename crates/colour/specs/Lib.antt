-- The rules of colours: their bytes, and the palette under the mask.
pub mod Colour
