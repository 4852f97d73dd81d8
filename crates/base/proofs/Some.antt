-- Laws of a test over numbers: whether some number below n passes. Assumes nothing.
use Prim.Native.Nat.{ℕ, zero, suc, ◌≤◌, ◌<◌}
use mathlib.Core.Bool.{Bool, true, false, ◌||◌}
use mathlib.Core.Logic.{⊎_elim}
use mathlib.Core.Path.{◌≡◌, refl}
use native.Mathlib.Omega.{arith}
use Rattle.base.specs.Count.{some}
use Rattle.base.proofs.Bools.{below}

-- no number passes
pub some_none : (p : ℕ → Bool) (n : ℕ) → ((k : ℕ) → k < n → p k ≡ false) → some p n ≡ false
unfolding some
some_none p zero h = refl
some_none p (suc n) h = rw (some_none p n (λ k l. h k (omega arith)), h n (omega arith))

-- one number does
pub some_at : (p : ℕ → Bool) (n k : ℕ) → k < n → p k ≡ true → some p n ≡ true
unfolding some
some_at p zero k l e = absurd (omega arith)
some_at p (suc n) k l e = ⊎_elim (λ q. rw (some_at p n k q e)) here (below k n)
  where
    either : (x : Bool) → (x || true) ≡ true
    either true = refl
    either false = refl

    here : n ≤ k → (some p n || p n) ≡ true
    here q =
        let z : k ≡ n = omega arith in
        rw (rw z at e) (either (some p n))
