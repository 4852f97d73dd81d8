-- What some of the ticks give, joined in tick order. Assumes nothing.
use Rattle.std.specs.Prelude.{ℕ, zero, suc, Bool, cond, List, [], ◌++◌}

-- the parts of those of the first n that pass a test
unfoldable pub gathered : {A : Type 0} → (ℕ → Bool) → (ℕ → List A) → ℕ → List A
gathered test part zero = []
gathered test part (suc n) = cond (test n) (gathered test part n ++ part n) (gathered test part n)
