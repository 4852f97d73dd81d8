-- The three bytes of a colour, of the mask or of a checksum word (01, "Rows and pixels"). Assumes nothing.
use Rattle.std.specs.Prelude.{ℕ, ◌+◌, ◌*◌, ◌/◌, ◌%◌}

-- red in bits 23 to 16, green, blue
abbrev pub red : ℕ → ℕ
red word = word / 0x10000 % 0x100

abbrev pub green : ℕ → ℕ
green word = word / 0x100 % 0x100

abbrev pub blue : ℕ → ℕ
blue word = word % 0x100

-- a word of three bytes
abbrev pub joined : ℕ → ℕ → ℕ → ℕ
joined r g b = r * 0x10000 + g * 0x100 + b
