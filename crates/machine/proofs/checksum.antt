-- What the proof of `checksum` uses.
mod Cases
