-- Laws that callers of `base` use.
pub mod Table
pub mod Run
pub mod Some
pub mod Laying
pub mod Bools
pub mod Lists
