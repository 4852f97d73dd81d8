-- The generator: the rules of its rows, its beginning, the one condition, and one tick; then where a tick stands, as the code holds it.
pub mod Rows
pub mod Counters
pub mod Dark
pub mod First
pub mod Sound
pub mod Tick
pub mod Stand
