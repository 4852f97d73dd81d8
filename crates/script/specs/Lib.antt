-- The lines of a bench script and their commands: names, numbers and faults.
pub mod Script
pub mod Commands
pub mod Names
pub mod Arguments
