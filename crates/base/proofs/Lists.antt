-- Laws of a list's entries, and of what is left of it. Assumes nothing.
use Prim.Native.Nat.{ℕ, ◌+◌, ◌-◌, ◌≤◌, ◌<◌}
use mathlib.Core.List.{List, ◌∷◌}
use mathlib.Core.Path.{◌≡◌, sym}
use native.Mathlib.Numerals.{add-one}
use native.Mathlib.Omega.{arith}
use lib.ListN.{length, get_or, take, drop, length-drop, get_or-eq_default}
use lib.Seq.{drop-cons, take_all}

-- past the end there is 0
pub none_there : (l : List ℕ) (n : ℕ) → length l ≤ n → 0 ≡ get_or l n 0
none_there l n h = sym (get_or-eq_default l 0 h)

-- what is left from a place on begins with the entry there
pub left_from : (l : List ℕ) (i : ℕ) → i < length l → drop i l ≡ get_or l i 0 ∷ drop (i + 1) l
left_from l i h = rw add-one (drop-cons l i 0 h)

-- all but the first, so many as there are
pub all_left : (l : List ℕ) → take (length l - 1) (drop 1 l) ≡ drop 1 l
all_left l = take_all (length l - 1) (drop 1 l) (omega (arith, length-drop 1 l))
