-- An interlaced picture woven for a file: the rule, each pixel once, a row as the code puts it.
pub mod Weave
pub mod Once
pub mod Part
