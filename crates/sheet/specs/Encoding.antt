-- The bytes of a sheet (01, "Screen sheet"): fourteen fields in the order of their tags. Assumes nothing.
use Rattle.std.specs.Prelude.{ℕ, ◌/◌, ◌%◌, ◌<◌, ◌≡◌, Bool, false, ◌||◌, List, [], ◌∷◌, ◌++◌, ltb, length, get_or}

-- the tags, in register order
abbrev pub tags : List ℕ
tags = 0x21 ∷ 0x22 ∷ 0x23 ∷ 0x24 ∷ 0x25 ∷ 0x26 ∷ 0x27 ∷ 0x28 ∷ 0x29 ∷ 0x2A ∷ 0x2B ∷ 0x2C ∷ 0x2D ∷ 0x2E ∷ []

-- one field: the tag, the length 2 in two bytes, the value in two bytes, high byte first
abbrev pub field_bytes : ℕ → ℕ → List ℕ
field_bytes tag value = tag ∷ 0 ∷ 2 ∷ value / 256 ∷ value % 256 ∷ []

-- a field for each tag due
unfoldable pub fields : List ℕ → List ℕ → List ℕ
fields (tag ∷ due) (value ∷ values) = field_bytes tag value ++ fields due values
fields [] values = []
fields (tag ∷ due) [] = []

-- the whole sheet of fourteen values
abbrev pub encoding : List ℕ → List ℕ
encoding values = fields tags values

-- some value is over 65,535
unfoldable pub over : List ℕ → Bool
over [] = false
over (value ∷ values) = ltb 65535 value || over values

-- a list that a slice of bytes holds
abbrev pub Bytes : List ℕ → Type 0
Bytes list = (k : ℕ) → get_or list k 0 < 256

-- the sheet is the encoding of fourteen values, none over 65,535
pub record Encodes (values sheet : List ℕ) : Type 0 where
  pub fourteen : length values ≡ 14
  pub small : over values ≡ false
  pub bytes : encoding values ≡ sheet
