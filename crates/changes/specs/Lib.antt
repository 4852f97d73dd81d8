-- What good commands do: to the machine, the memory lent and the picture.
pub mod Changes
pub mod LentMemory
