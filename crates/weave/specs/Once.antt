-- Each pixel of the picture stands at one place of the file, and every other place is black: the statement, and an example. Assumes nothing.
use Rattle.std.specs.Prelude.{ℕ, ◌+◌, ◌-◌, ◌*◌, ◌/◌, ◌%◌, ◌≤◌, ◌<◌, Bool, true, false, not, cond, List, ◌≡◌, ltb, get_or}
use Rattle.base.specs.Count.{run}
use Rattle.weave.specs.declared.Weave.{Weave}
use Rattle.weave.specs.Weave.{start_of, pixels_of, begin_of, lacked, pixel_at, byte_at, byte_of}

-- a place of the file
pub record Place : Type 0 where
  pub row : ℕ
  pub column : ℕ

-- row i of a field, in the file
abbrev pub row_in : Bool → ℕ → ℕ
row_in b i = cond b (2 * i) (2 * i + 1)

-- a column of it, and where pixel n of a field stands
abbrev pub in_row : Bool → ℕ → ℕ → Place
in_row b i column = record { row = row_in b i; column = column }

abbrev pub place_in : Weave → Bool → ℕ → Place
place_in w b n = in_row b ((n + start_of w b) / w.width) ((n + start_of w b) % w.width)

-- the field of pixel p of the picture, and where that pixel stands
abbrev pub field_of : Weave → ℕ → Bool
field_of w p = cond (ltb p (pixels_of w w.late)) w.late (not w.late)

unfoldable pub place_of : Weave → ℕ → Place
place_of w p = place_in w (field_of w p) (p - begin_of w (field_of w p))

-- a place at which a pixel stands
pub record Shown (w : Weave) (at : Place) : Type 0 where
  pub row : at.row ≤ w.lines
  pub column : at.column < w.width
  pub there : lacked w at.row at.column ≡ false

-- pixels and these places are one to one (`placed`, `found`); a pixel's bytes stand at its place, and what is lacked is black
pub record Once (w : Weave) : Type 0 where
  pub placed : (p : ℕ) → p < w.lines * w.width → Shown w (place_of w p) × (pixel_at w (place_of w p).row (place_of w p).column ≡ p)
  pub found : (at : Place) → Shown w at → (pixel_at w at.row at.column < w.lines * w.width) × (place_of w (pixel_at w at.row at.column) ≡ at)
  pub shown : (picture : List ℕ) (p channel : ℕ) → p < w.lines * w.width → channel < 3 → byte_at w picture (byte_of w (place_of w p).row (place_of w p).column channel) ≡ get_or picture (3 * p + channel) 0
  pub black : (picture : List ℕ) (row column channel : ℕ) → column < w.width → channel < 3 → lacked w row column ≡ true → byte_at w picture (byte_of w row column channel) ≡ 0

-- an example: three lines of three pixels, whose first halves have one
abbrev pub example : Bool → Weave
example late = record { width = 3; lines = 3; half = 1; late = late }

-- the red of its file's four rows, where the picture's pixels are 1 to 9
abbrev pub example_file : Bool → List ℕ
example_file late = run (λ n. byte_at (example late) (run (λ k. k / 3 + 1) 0 27) (3 * n)) 0 12
