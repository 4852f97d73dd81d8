-- A whole frame: what its ticks give, what it comes to, and demand 3.
pub mod Gather
pub mod Frame
pub mod Demand
pub mod Bench
