-- What goes out of a tick whose generator is lent.
pub mod Lent
