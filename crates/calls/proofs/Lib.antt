-- Laws of many ticks: one by one, in parts, over whole frames; and of an interlaced picture, woven.
pub mod Running
pub mod Dark
pub mod Parts
pub mod Frames
pub mod Woven
