-- A key is released exactly when the answer is 1: then, and only then, both are the same nine bytes. Assumes nothing.
use Prim.Native.Nat.{ℕ}
use mathlib.Core.Path.{◌≡◌, refl}
use mathlib.Core.Bool.{Bool, true, false, cond, ◌&&◌}
use mathlib.Core.List.{List}
use native.Mathlib.Omega.{arith}
use borrow.Author.Tests.{eq-eqb}
use lib.ListN.{length}
use Rattle.vault.specs.Compare.{match, nine_long}
use Rattle.vault.proofs.Laws.{equal_same, same_equal}
use Rattle.station.specs.Number.{number, checksums_number}

only_one : (nine same : Bool) → number (cond nine 0 24) (cond (nine && same) 1 0) ≡ 1 → (nine && same) ≡ true
only_one true true e = refl
only_one true false e = absurd (omega (arith, e))
only_one false same e = absurd (omega (arith, e))

pub released_same : (a b : List ℕ) → checksums_number a b ≡ 1 → (length a ≡ 9) × (a ≡ b)
released_same a b e = equal_same a b (only_one (nine_long a b) (match a b) e)

pub same_released : (a b : List ℕ) → length a ≡ 9 → a ≡ b → checksums_number a b ≡ 1
same_released a b nine e = rw (same_equal a b nine e, ← e, eq-eqb (length a) 9 nine)
