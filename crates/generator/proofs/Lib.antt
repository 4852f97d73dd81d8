-- Laws of the generator's rules.
pub mod Rows
pub mod VisibleBefore
pub mod FirstVisible
pub mod Puts
pub mod Bare
pub mod Kept
pub mod Dark
