-- Laws of marks and lines.
pub mod Any
