-- Laws of a patient's sheet.
pub mod Worked
