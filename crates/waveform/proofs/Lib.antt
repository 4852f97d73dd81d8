-- Laws of a waveform's text.
mod Cases
mod WireByWire
mod Changed
