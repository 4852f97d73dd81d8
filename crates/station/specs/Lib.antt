-- What the station's host is answered.
pub mod Number
