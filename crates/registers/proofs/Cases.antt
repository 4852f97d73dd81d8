-- What the laws and the functions' proofs rest on: how a store changes the rows. Assumes nothing.
use Prim.Native.Nat.{ℕ, zero, suc, ◌%◌, ◌^◌, ◌≤◌}
use mathlib.Core.Path.{◌≡◌, refl}
use mathlib.Core.Bool.{Bool, true, false, cond}
use mathlib.Core.List.{List, [], ◌∷◌}
use native.Mathlib.Omega.{arith}
use lib.ListN.{get_or, set, replicate}
use Rattle.registers.specs.declared.map.Place.{Place}
use Rattle.registers.specs.declared.map.Place.TheVariants.{Reserved, Parameter, Mask, Control, Top, Colour, Checksum, Position, Palette, Store}
use Rattle.registers.specs.declared.Registers.{Registers}
use Rattle.registers.specs.Map.{row_of, number_in_row}
use Rattle.registers.specs.File.{rows, row_in, kept_at, store_in}

-- lists: one number of one row set, a bound on what is set, and zeros
pub set_row : (l : List (List ℕ)) (i k v : ℕ) → get_or (set l i (set (get_or l i []) k v)) i [] ≡ set (get_or l i []) k v
set_row [] i k v = refl
set_row (x ∷ l) zero k v = refl
set_row (x ∷ l) (suc i) k v = set_row l i k v

pub set_bound : (l : List ℕ) (k v most : ℕ) → get_or l k 0 ≤ most → v ≤ most → get_or (set l k v) k 0 ≤ most
set_bound [] k v most h b = h
set_bound (x ∷ l) zero v most h b = b
set_bound (x ∷ l) (suc k) v most h b = set_bound l k v most h b

pub zero_at : (n k : ℕ) → ◌≡◌ {A = ℕ} (get_or (replicate n 0) k 0) 0
zero_at zero k = refl
zero_at (suc n) zero = refl
zero_at (suc n) (suc k) = zero_at n k

-- a value that fits its place is kept whole
pub fitted : (t : Bool) (v : ℕ) → v ≤ cond t 0xFFFF 0xFFFFFF → cond t (v % 2 ^ 16) v ≡ v
fitted true v h = omega arith
fitted false v h = refl

-- the rows after a store: one number of the place's row is set
pub rows_stored : (r : Registers) (p : Place) (v : ℕ) → rows (store_in r p v) ≡ set (rows r) (row_of p) (set (row_in r p) (number_in_row p) (kept_at p v))
unfolding store_in
rows_stored r Reserved v = refl
rows_stored r (Parameter k) v = refl
rows_stored r Mask v = refl
rows_stored r Control v = refl
rows_stored r Top v = refl
rows_stored r (Colour k) v = refl
rows_stored r (Checksum k) v = refl
rows_stored r Position v = refl
rows_stored r (Palette k) v = refl
rows_stored r (Store k) v = refl
