-- The rules of reading a sheet.
-- The rule of one field by its tag.
-- The bytes of a sheet: its tags and its fields.
-- The rules of writing a sheet.
pub mod Reader
pub mod Field
pub mod Encoding
pub mod Writer
