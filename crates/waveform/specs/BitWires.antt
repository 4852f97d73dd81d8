-- What the one-bit wires write into a waveform (a VCD file): each that differs from the tick before. Assumes nothing.
use Rattle.std.specs.Prelude.{ℕ, Bool, not, cond, ◌||◌, List, [], ◌∷◌}
use Rattle.signals.specs.declared.Signals.{Signals}
use Rattle.text.specs.Lines.{line_end}

-- a level and the mark of its wire
abbrev pub level_text : ℕ → Bool → List ℕ
level_text mark high = cond high 49 48 ∷ mark ∷ line_end

-- two levels differ
abbrev pub differ : Bool → Bool → Bool
differ a b = cond a (not b) b

-- the text of a wire: none where it is as it was before, unless all are written
abbrev pub level_change : Bool → ℕ → Bool → Bool → List ℕ
level_change all mark before level = cond (all || differ before level) (level_text mark level) []

-- the one-bit wires, in their order: the mark of each, a to f, and its level in the tick before and in this one
abbrev pub level_wires : Signals → Signals → List (ℕ × Bool × Bool)
level_wires before s =
    (97, before.sync, s.sync) ∷
    (98, before.vsync, s.vsync) ∷
    (99, before.inactive, s.inactive) ∷
    (100, before.blank, s.blank) ∷
    (101, before.request, s.request) ∷
    (102, before.transfer, s.transfer) ∷
    []

abbrev pub wire_change : Bool → ℕ × Bool × Bool → List ℕ
wire_change all wire = level_change all wire.0 wire.1 wire.2

-- what they write
abbrev pub level_changes : Bool → Signals → Signals → List (List ℕ)
level_changes all before s =
    level_change all 97 before.sync s.sync ∷
    level_change all 98 before.vsync s.vsync ∷
    level_change all 99 before.inactive s.inactive ∷
    level_change all 100 before.blank s.blank ∷
    level_change all 101 before.request s.request ∷
    level_change all 102 before.transfer s.transfer ∷
    []

-- some wire differs
abbrev pub levels_differ : Signals → Signals → Bool
levels_differ before s =
    differ before.sync s.sync
    || (differ before.vsync s.vsync
    || (differ before.inactive s.inactive
    || (differ before.blank s.blank
    || (differ before.request s.request
    || differ before.transfer s.transfer))))
