-- The checksums (01, "Rows and pixels"): each unblanked colour byte is added to its 24-bit sum. Assumes nothing.
use Rattle.std.specs.Prelude.{ℕ, ◌^◌, ◌<◌, Bool, cond, List, [], ◌∷◌}
use Rattle.base.specs.Sum.{rolled}
use Rattle.base.specs.Channels.{red, green, blue}
use Rattle.pixel.specs.declared.Sums.{Sums}

abbrev pub none : Sums
none = record { red = 0; green = 0; blue = 0 }

abbrev pub added : Sums → ℕ → Sums
added s colour =
    record {
      red = rolled s.red (red colour);
      green = rolled s.green (green colour);
      blue = rolled s.blue (blue colour);
    }

-- every colour's three bytes, once each
unfoldable pub summed : Sums → List ℕ → Sums
summed s [] = s
summed s (colour ∷ rest) = summed (added s colour) rest

-- sums clear at the first VDisplay tick, which opens it
abbrev pub cleared_at : Bool → Sums → Sums
cleared_at opens s = cond opens none s

-- the colours of a tick that shows are summed, and of no other
abbrev pub summed_where : Bool → Sums → List ℕ → Sums
summed_where shows s colours = cond shows (summed s colours) s

-- three sums of 24 bits
pub record Below24 (s : Sums) : Type 0 where
  pub red : s.red < 2 ^ 24
  pub green : s.green < 2 ^ 24
  pub blue : s.blue < 2 ^ 24
