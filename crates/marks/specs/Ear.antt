-- One ear on the chart: frequency left to right on octaves, level downwards. Assumes nothing.
use Rattle.std.specs.Prelude.{ℕ, zero, suc, ◌+◌, ◌*◌, ◌-◌, Bool, cond, ◌&&◌, ◌||◌, List, [], ◌∷◌, Option, Some, None, ltb, leb, get_or}
use Rattle.base.specs.Count.{some}
use Rattle.marks.specs.Marks.{mark, line}
use Rattle.marks.specs.declared.points.Point.{Point}

-- levels go from -10 to 120 dB in steps of 5; a larger number is not measured
abbrev pub measured : ℕ → Bool
measured level = leb level 26

-- the columns of the eleven frequencies
abbrev pub columns : List ℕ
columns = 112 ∷ 176 ∷ 240 ∷ 272 ∷ 304 ∷ 336 ∷ 368 ∷ 400 ∷ 432 ∷ 464 ∷ 496 ∷ []

-- where frequency k's level stands
abbrev pub point_of : List ℕ → ℕ → Point
point_of levels k = record { x = get_or columns k 0; y = 36 + 16 * get_or levels k 0 }

-- where an ear's key stands, beside the chart
abbrev pub key_of : Bool → Point
key_of right = cond right (record { x = 556; y = 52 }) (record { x = 556; y = 84 })

-- one more than the last frequency below k that was measured, or 0
unfoldable pub last_before : List ℕ → ℕ → ℕ
last_before levels zero = 0
last_before levels (suc k) = cond (measured (get_or levels k 0)) (k + 1) (last_before levels k)

-- one more than a frequency, or 0 for none
abbrev pub place_after : Option ℕ → ℕ
place_after None = 0
place_after (Some k) = k + 1

-- frequency k was measured, and its mark covers the pixel, or the line to it from the one measured before
unfoldable pub covered_at : Bool → List ℕ → Point → ℕ → ℕ → Bool
covered_at right levels p last k =
    measured (get_or levels k 0) &&
    (mark right p (point_of levels k) || (ltb 0 last && line p (point_of levels (last - 1)) (point_of levels k)))

-- A PIXEL OF AN EAR: of its marks and lines, or of its key where any level was measured
unfoldable pub shows : Bool → List ℕ → Point → Bool
shows right levels p =
    some (λ k. covered_at right levels p (last_before levels k) k) 11 ||
    (ltb 0 (last_before levels 11) && mark right p (key_of right))
