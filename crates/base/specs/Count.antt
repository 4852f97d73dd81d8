-- Numbers counted from 0: how many pass a test, which, whether any, and what a function says of each. Assumes nothing.
use Rattle.std.specs.Prelude.{ℕ, zero, suc, ◌+◌, Bool, false, cond, ◌||◌, List, [], ◌∷◌, ◌++◌}

-- how many numbers below n pass
unfoldable pub count : (ℕ → Bool) → ℕ → ℕ
count test zero = 0
count test (suc n) = cond (test n) (count test n + 1) (count test n)

-- which of them, in order
unfoldable pub passing : (ℕ → Bool) → ℕ → List ℕ
passing test zero = []
passing test (suc n) = cond (test n) (passing test n ++ (n ∷ [])) (passing test n)

-- whether any does
unfoldable pub some : (ℕ → Bool) → ℕ → Bool
some test zero = false
some test (suc n) = some test n || test n

-- what a function says of n numbers from `from` on, in order
unfoldable pub run : {A : Type 0} → (ℕ → A) → ℕ → ℕ → List A
run f from zero = []
run f from (suc n) = f from ∷ run f (suc from) n
