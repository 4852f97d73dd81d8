-- Sums of 24 bits (01, "Rows and pixels"), addresses and checksums, and counts of 64 bits. Assumes nothing.
use Rattle.std.specs.Prelude.{ℕ, ◌+◌, ◌-◌, ◌%◌, ◌^◌, min}

-- a sum that rolls over past #FFFFFF
abbrev pub rolled : ℕ → ℕ → ℕ
rolled a b = (a + b) % 2 ^ 24

-- a count that stops at the largest that 64 bits hold, so that any two numbers may be multiplied
abbrev pub capped : ℕ → ℕ
capped n = min n (2 ^ 64 - 1)
