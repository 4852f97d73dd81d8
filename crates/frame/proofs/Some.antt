-- More laws of a test over numbers: two tests, four numbers at a time, one number more. Assumes nothing.
use Prim.Native.Nat.{ℕ, zero, suc, ◌+◌, ◌*◌, ◌<◌}
use mathlib.Core.Bool.{Bool, true, false, cond, ◌&&◌, ◌||◌, or_assoc, or-false}
use mathlib.Core.Path.{◌≡◌, refl}
use native.Mathlib.Numerals.{add-one}
use native.Mathlib.Omega.{arith}
use Rattle.base.specs.Count.{some}

-- two tests that agree
pub some_same : (p q : ℕ → Bool) (n : ℕ) → ((k : ℕ) → k < n → p k ≡ q k) → some p n ≡ some q n
unfolding some
some_same p q zero h = refl
some_same p q (suc n) h =
    let a = some_same p q n (λ k l. h k (omega arith)) in
    let b = h n (omega arith) in
    cc

-- four at a time
pub some_four : (p : ℕ → Bool) (n : ℕ) → some (λ v. some (λ k. p (4 * v + k)) 4) n ≡ some p (4 * n)
unfolding some
some_four p zero = refl
some_four p (suc n) =
    let ih = some_four p n in
    let z : 4 * suc n ≡ suc (suc (suc (suc (4 * n)))) = omega arith in
    let a : 4 * n + 0 ≡ 4 * n = omega arith in
    let b : 4 * n + 1 ≡ suc (4 * n) = omega arith in
    let c : 4 * n + 2 ≡ suc (suc (4 * n)) = omega arith in
    let d : 4 * n + 3 ≡ suc (suc (suc (4 * n))) = omega arith in
    rw (z, ih) (simp (a, b, c, d, or_assoc))

-- one test for all
pub some_and : (t : Bool) (p : ℕ → Bool) (n : ℕ) → some (λ k. t && p k) n ≡ (t && some p n)
unfolding some
some_and true p n = refl
some_and false p zero = refl
some_and false p (suc n) = rw (some_and false p n)

-- one number more, where it counts
pub some_on : (p : ℕ → Bool) (t : Bool) (n : ℕ) → (some p n || (t && p n)) ≡ some p (cond t (n + 1) n)
unfolding some
some_on p true n = rw (add-one n)
some_on p false n = or-false (some p n)
