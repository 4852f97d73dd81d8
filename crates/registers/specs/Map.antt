-- The register map (01, "Register map"): what stands at each word address, and the rules of each place. Assumes nothing.
use Rattle.std.specs.Prelude.{ℕ, ◌-◌, ◌≤◌, Bool, cond, ◌&&◌, List, [], ◌∷◌, leb, eqb}
use Rattle.registers.specs.declared.map.Place.{Place}
use Rattle.registers.specs.declared.map.Place.TheVariants.{Reserved, Parameter, Mask, Control, Top, Colour, Checksum, Position, Palette, Store}

-- a row of the map: its first and its last address, and what stands at each, numbered from 0
pub record Row : Type 0 where
  pub first : ℕ
  pub last : ℕ
  pub holds : ℕ → Place

abbrev pub row : ℕ → ℕ → (ℕ → Place) → Row
row first last holds = record { first = first; last = last; holds = holds }

-- the map, in 01's order
abbrev pub register_map : List Row
register_map =
    row 0x021 0x02E Parameter ∷
    row 0x040 0x040 (λ k. Mask) ∷
    row 0x060 0x060 (λ k. Control) ∷
    row 0x080 0x080 (λ k. Top) ∷
    row 0x0A1 0x0A3 Colour ∷
    row 0x0C0 0x0C2 Checksum ∷
    row 0x0C7 0x0C7 (λ k. Position) ∷
    row 0x100 0x1FF Palette ∷
    row 0x200 0x3FF Store ∷
    []

-- what stands at an address: reserved, where no row has it
abbrev pub place_among : List Row → ℕ → Place
place_among [] address = Reserved
place_among (r ∷ later) address =
    cond (leb r.first address && leb address r.last) (r.holds (address - r.first)) (place_among later address)

unfoldable pub place_of : ℕ → Place
place_of address = place_among register_map address

-- the row of the map that has a place, from 0; 9 is none
abbrev pub row_of : Place → ℕ
row_of (Parameter k) = 0
row_of Mask = 1
row_of Control = 2
row_of Top = 3
row_of (Colour k) = 4
row_of (Checksum k) = 5
row_of Position = 6
row_of (Palette k) = 7
row_of (Store k) = 8
row_of Reserved = 9

-- a place's number in its row
abbrev pub number_in_row : Place → ℕ
number_in_row (Parameter k) = k
number_in_row Mask = 0
number_in_row Control = 0
number_in_row Top = 0
number_in_row (Colour k) = k
number_in_row (Checksum k) = k
number_in_row Position = 0
number_in_row (Palette k) = k
number_in_row (Store k) = k
number_in_row Reserved = 0

-- a screen parameter, touched only while stopped
abbrev pub is_parameter : Place → Bool
is_parameter p = eqb (row_of p) 0

-- control A
abbrev pub is_control : Place → Bool
is_control p = eqb (row_of p) 2

-- a checksum, read only
abbrev pub is_checksum : Place → Bool
is_checksum p = eqb (row_of p) 5

-- the cursor store, of 16 bits
abbrev pub is_store : Place → Bool
is_store p = eqb (row_of p) 8

-- what the map does not have
abbrev pub is_reserved : Place → Bool
is_reserved p = eqb (row_of p) 9

-- the largest value that a place holds (01, "Refusal numbers", 1)
abbrev pub widest : Place → ℕ
widest p = cond (is_store p) 0xFFFF 0xFFFFFF

-- a value that a place holds
pub record Storable (p : Place) (v : ℕ) : Type 0 where
  pub narrow : v ≤ widest p
