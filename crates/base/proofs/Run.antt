-- Laws of a run of numbers, of a count and of a test over one. Assumes nothing.
use Prim.Native.Nat.{ℕ, zero, suc, ◌+◌, ◌<◌}
use mathlib.Core.Path.{◌≡◌, refl, sym, ap, ◌∙◌}
use mathlib.Core.List.{List, ◌∷◌, ◌++◌}
use native.Mathlib.Nat.{add-zero, add-suc, suc-add, zero-add}
use native.Mathlib.Omega.{arith}
use lib.ListN.{length, get_or}
use Rattle.std.proofs.lemmas.List.{ext_get_or}
use Rattle.base.specs.Count.{run}

-- a run has as many entries as it counts, and each is the function's
pub run_length : {A : Type 0} (f : ℕ → A) (from n : ℕ) → length (run f from n) ≡ n
unfolding run
run_length f from zero = refl
run_length f from (suc n) = ap suc (run_length f (suc from) n)

pub run_entry : {A : Type 0} (f : ℕ → A) (from n k : ℕ) (other : A) → k < n → get_or (run f from n) k other ≡ f (from + k)
unfolding run
run_entry f from zero k other h = absurd (omega arith)
run_entry f from (suc n) zero other h = rw add-zero
run_entry f from (suc n) (suc k) other h = rw (add-suc, ← suc-add) (run_entry f (suc from) n k other (omega arith))

-- a list of a function's entries is its run
pub run_is : (f : ℕ → ℕ) (n : ℕ) (list : List ℕ) → length list ≡ n → ((k : ℕ) → k < n → get_or list k 0 ≡ f k) → list ≡ run f 0 n
run_is f n list e h = ext_get_or 0 list (run f 0 n) (e ∙ sym (run_length f 0 n)) (λ k l. h k (omega arith) ∙ sym (run_entry f 0 n k 0 (omega arith) ∙ ap f (zero-add k)))

-- two runs of one function, one after the other
pub run_append : {A : Type 0} (f : ℕ → A) (from m n : ℕ) → run f from (m + n) ≡ run f from m ++ run f (from + m) n
unfolding run
run_append f from zero n = rw (zero-add, add-zero)
run_append f from (suc m) n = rw (suc-add, add-suc, ← suc-add) (ap (λ (l : List _). f from ∷ l) (run_append f (suc from) m n))

-- two functions that agree place by place have one run
pub run_same : {A : Type 0} (f g : ℕ → A) (a b n : ℕ) → ((k : ℕ) → k < n → f (a + k) ≡ g (b + k)) → run f a n ≡ run g b n
unfolding run
run_same f g a b zero h = refl
run_same f g a b (suc n) h =
    let here = h 0 (omega arith) in
    let rest = run_same f g (suc a) (suc b) n (λ k p. rw (suc-add, ← add-suc) (rw (suc-add, ← add-suc) (h (suc k) (omega arith)))) in
    ap2 (rw (add-zero, add-zero) at here) rest
  where
    ap2 : {A : Type 0} {x y : A} {l m : List A} → x ≡ y → l ≡ m → x ∷ l ≡ y ∷ m
    ap2 p q = cc
