-- Laws of tests joined by `or` and `and`, and of a chain of refusals. Assumes nothing.
use Prim.Native.Nat.{ℕ, suc, ◌≤◌, ◌<◌}
use mathlib.Core.Bool.{Bool, true, false, cond, ◌&&◌, ◌||◌, true≢false}
use mathlib.Core.Logic.{◌⊎◌}
use mathlib.Core.Path.{◌≡◌, refl, sym}
use native.Mathlib.Omega.{arith}
use borrow.Author.Tests.{ltb-true, ltb-false}
use lib.Dec.{ltb}

-- a number is below another or not, as a case
pub below : (a b : ℕ) → (a < b) ⊎ (b ≤ a)
below a b = go (ltb a b) refl
  where
    go : (t : Bool) → ltb a b ≡ t → (a < b) ⊎ (b ≤ a)
    go true e = ◌⊎◌.inl (ltb-true a b e)
    go false e = ◌⊎◌.inr (ltb-false a b e)

-- two tests that both hold
pub both_hold : (a b : Bool) → (a && b) ≡ true → (a ≡ true) × (b ≡ true)
both_hold true b e = (refl, e)
both_hold false b e = absurd (true≢false (sym e))

-- two tests of which neither holds
pub neither_holds : (a b : Bool) → (a || b) ≡ false → (a ≡ false) × (b ≡ false)
neither_holds false b e = (refl, e)
neither_holds true b e = absurd (true≢false e)

-- where the first brings the second with it, the second decides
pub or_second : (a b : Bool) → (a ≡ true → b ≡ true) → (a || b) ≡ b
or_second true b h = sym (h refl)
or_second false b h = refl

-- 0 from a chain of refusals: this one does not hold, and the later ones give 0
pub link_passed : (test : Bool) (n later : ℕ) → cond test (suc n) later ≡ 0 → (test ≡ false) × (later ≡ 0)
link_passed true n later e = absurd (omega arith)
link_passed false n later e = (refl, e)
