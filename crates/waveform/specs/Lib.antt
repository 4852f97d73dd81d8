-- The text of a waveform: its one-bit wires, its wires of 24 bits, and its ticks.
pub mod WideWires
pub mod BitWires
pub mod Waveform
