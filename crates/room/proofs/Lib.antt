-- Laws of bytes put into a room.
pub mod Laying
