-- One 64-bit number for each call from C (01, "Rows and pixels"): the refusal above, the value below. Assumes nothing.
use Rattle.std.specs.Prelude.{ℕ, ◌+◌, ◌*◌, ◌^◌, cond, List}
use Rattle.sheet.specs.Field.{field_of}
use Rattle.vault.specs.Compare.{compared}

-- the refusal in bits 63 to 32, the value in bits 31 to 0
abbrev pub number : ℕ → ℕ → ℕ
number refusal value = refusal * 2 ^ 32 + value

-- of two checksums: the value is 1 for equal and 0 for different
abbrev pub checksums_number : List ℕ → List ℕ → ℕ
checksums_number a b = number (compared a b).refusal (cond (compared a b).equal 1 0)

-- of one field of a whole good sheet, by its tag
abbrev pub field_number : List ℕ → ℕ → ℕ
field_number sheet tag = number (field_of sheet tag).refusal (field_of sheet tag).value
