-- Many ticks of a machine, its picture's size and how an interlaced one is woven, and its nine checksum bytes.
pub mod Calls
pub mod Runs
pub mod Nine
pub mod Woven
