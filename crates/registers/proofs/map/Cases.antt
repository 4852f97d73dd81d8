-- Where a place stands in the map: its row and its number there. Assumes nothing.
use Prim.Native.Nat.{ℕ, ◌+◌, ◌-◌, ◌≤◌}
use mathlib.Core.Path.{◌≡◌, refl}
use mathlib.Core.Bool.{Bool, true, false, cond, ◌&&◌, true≢false}
use mathlib.Core.List.{List, [], ◌∷◌}
use mathlib.Core.Logic.{◌⊎◌, inl, inr, ⊎_elim}
use lib.Dec.{leb, eqb}
use lib.ListN.{get_or}
use borrow.Author.Rules.{rules}
use borrow.Author.Tests.{leb-true, eqb-true, eqb-false}
use Rattle.registers.specs.declared.map.Place.{Place}
use Rattle.registers.specs.declared.map.Place.TheVariants.{Reserved, Parameter, Mask, Control, Top, Colour, Checksum, Position, Palette, Store}
use Rattle.registers.specs.Map.{Row, row, register_map, place_among, place_of, row_of, number_in_row, is_reserved}
use Rattle.base.proofs.Bools.{both_hold}

-- the row of the map that has a place; the place is what that row holds at its number
abbrev pub row_at : Place → Row
row_at p = get_or register_map (row_of p) (row 0 0 (λ k. Reserved))

pub placed : (p : Place) → (row_at p).holds (number_in_row p) ≡ p
placed Reserved = refl
placed (Parameter k) = refl
placed Mask = refl
placed Control = refl
placed Top = refl
placed (Colour k) = refl
placed (Checksum k) = refl
placed Position = refl
placed (Palette k) = refl
placed (Store k) = refl

pub equal : (m n : ℕ) (t : Bool) → eqb m n ≡ t → (m ≡ n) ⊎ (m ≡ n → ⊥)
equal m n true e = inl (eqb-true m n e)
equal m n false e = inr (eqb-false m n e)

-- two places are one, or differ in their rows, or in their numbers in one row
pub apart : (p q : Place) → (q ≡ p) ⊎ ((row_of q ≡ row_of p → ⊥) ⊎ ((row_of q ≡ row_of p) × (number_in_row q ≡ number_in_row p → ⊥)))
apart p q =
    ⊎_elim
    (λ i. ⊎_elim (λ k. inl (cc (placed p, placed q))) (λ k. inr (inr (i, k))) (equal (number_in_row q) (number_in_row p) _ refl))
    (λ i. inr (inl i))
    (equal (row_of q) (row_of p) _ refl)

-- a place that is not reserved stands at the address that its row and its number give
pub record Found (a : ℕ) (p : Place) : Type 0 where
  pub address : a ≡ (row_at p).first + number_in_row p
  pub high : a ≤ (row_at p).last

chosen : (a : ℕ) (t : Bool) (p q : Place) → (t ≡ true → Found a p) → (is_reserved q ≡ false → Found a q) → is_reserved (cond t p q) ≡ false → Found a (cond t p q)
chosen a true p q f g e = f refl
chosen a false p q f g e = g e

abbrev Each : ℕ → List Row → Type 0
Each a [] = Unit
Each a (r ∷ later) = (r.first ≤ a → a ≤ r.last → Found a (r.holds (a - r.first))) × Each a later

found_in : (a : ℕ) (l : List Row) → Each a l → is_reserved (place_among l a) ≡ false → Found a (place_among l a)
found_in a [] each e = absurd (true≢false e)
found_in a (r ∷ later) each e =
    chosen a (leb r.first a && leb a r.last) (r.holds (a - r.first)) (place_among later a)
    (λ h. let b = both_hold (leb r.first a) (leb a r.last) h in each.0 (leb-true _ _ b.0) (leb-true _ _ b.1))
    (found_in a later each.1)
    e

pub found : (a : ℕ) → is_reserved (place_of a) ≡ false → Found a (place_of a)
unfolding place_of
found a e = found_in a register_map (search rules) e
