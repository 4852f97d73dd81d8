-- The rules of the cursor: its signed position, its code at a pixel, its colours.
pub mod Cursor
