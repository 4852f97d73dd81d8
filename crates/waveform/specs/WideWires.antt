-- What the wires of 24 bits write into a waveform (a VCD file): each that differs from the tick before. Assumes nothing.
use Rattle.std.specs.Prelude.{ℕ, zero, suc, ◌+◌, ◌/◌, ◌%◌, ◌^◌, Bool, not, cond, ◌||◌, List, [], ◌∷◌, ◌++◌, eqb, get_or}
use Rattle.signals.specs.declared.Signals.{Signals}
use Rattle.text.specs.Lines.{line_end}

-- the n low bits of a number, the most significant first
abbrev pub bits : ℕ → ℕ → List ℕ
bits zero value = []
bits (suc n) value = (48 + value / 2 ^ n % 2) ∷ bits n value

-- `b`, 24 bits, and the mark of their wire
abbrev pub bus_text : ℕ → ℕ → List ℕ
bus_text mark value = 98 ∷ (bits 24 value ++ (32 ∷ mark ∷ line_end))

-- the text of a wire: none where it is as it was before, unless all are written
abbrev pub bus_change : Bool → ℕ → ℕ → ℕ → List ℕ
bus_change all mark before value = cond (all || not (eqb before value)) (bus_text mark value) []

-- pixel k of a tick
abbrev pub pixel_colour : Signals → ℕ → ℕ
pixel_colour s k = (get_or s.dots k (record { colour = 0 })).colour

-- the wires, in their order: the mark of each, g to k, and its value in the tick before and in this one
abbrev pub bus_wires : Signals → Signals → List (ℕ × ℕ × ℕ)
bus_wires before s =
    (103, before.address, s.address) ∷
    (104, pixel_colour before 0, pixel_colour s 0) ∷
    (105, pixel_colour before 1, pixel_colour s 1) ∷
    (106, pixel_colour before 2, pixel_colour s 2) ∷
    (107, pixel_colour before 3, pixel_colour s 3) ∷
    []

abbrev pub wire_change : Bool → ℕ × ℕ × ℕ → List ℕ
wire_change all wire = bus_change all wire.0 wire.1 wire.2

-- what they write
abbrev pub bus_changes : Bool → Signals → Signals → List (List ℕ)
bus_changes all before s =
    bus_change all 103 before.address s.address ∷
    bus_change all 104 (pixel_colour before 0) (pixel_colour s 0) ∷
    bus_change all 105 (pixel_colour before 1) (pixel_colour s 1) ∷
    bus_change all 106 (pixel_colour before 2) (pixel_colour s 2) ∷
    bus_change all 107 (pixel_colour before 3) (pixel_colour s 3) ∷
    []

-- some wire differs
abbrev pub buses_differ : Signals → Signals → Bool
buses_differ before s =
    not (eqb before.address s.address)
    || (not (eqb (pixel_colour before 0) (pixel_colour s 0))
    || (not (eqb (pixel_colour before 1) (pixel_colour s 1))
    || (not (eqb (pixel_colour before 2) (pixel_colour s 2))
    || not (eqb (pixel_colour before 3) (pixel_colour s 3)))))
