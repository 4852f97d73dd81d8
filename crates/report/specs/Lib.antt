-- What is shown of a script, in each form.
pub mod Pages
pub mod Phrases
pub mod Notes
pub mod TickLines
