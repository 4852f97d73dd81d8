-- Numbers in hexadecimal digits (docs/SCRIPT.md). Assumes nothing.
use Rattle.std.specs.Prelude.{ℕ, ◌+◌, ◌/◌, ◌%◌, cond, List, [], ◌∷◌, ltb}

-- a hexadecimal digit, in capitals
abbrev pub glyph : ℕ → ℕ
glyph digit = cond (ltb (digit % 16) 10) (48 + digit % 16) (55 + digit % 16)

-- `#` and six digits
abbrev pub hex_text : ℕ → List ℕ
hex_text value =
    35 ∷ glyph (value / 0x100000) ∷ glyph (value / 0x10000) ∷ glyph (value / 0x1000) ∷ glyph (value / 0x100) ∷ glyph (value / 0x10) ∷ glyph value ∷ []

-- a byte as two digits
abbrev pub byte_text : ℕ → List ℕ
byte_text byte = glyph (byte / 0x10) ∷ glyph byte ∷ []
