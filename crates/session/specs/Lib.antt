-- What a line of a script does, and what is shown of it.
pub mod Session
pub mod Shows
