-- A table's rule: one test that the checker computes over the whole table gives the rule at each entry. Assumes nothing.
use Prim.Native.Nat.{ℕ, zero, suc, ◌+◌, ◌<◌}
use mathlib.Core.Path.{subst}
use mathlib.Core.Bool.{Bool, true, false, ◌&&◌}
use mathlib.Core.List.{List, [], ◌∷◌}
use native.Mathlib.Omega.{arith}
use lib.Dec.{T}
use lib.ListN.{length, get_or}

-- the test passes at every entry, given its place; the first entry's place is `from`
abbrev pub passes : (ℕ → ℕ → Bool) → ℕ → List ℕ → Bool
passes test from [] = true
passes test from (value ∷ rest) = test from value && passes test (suc from) rest

here : (a b : Bool) → T (a && b) → T a
here true b t = tt
here false true t = t
here false false t = t

there : (a b : Bool) → T (a && b) → T b
there true b t = t
there false true t = tt
there false false t = t

passed_from : (test : ℕ → ℕ → Bool) (from : ℕ) (table : List ℕ) → T (passes test from table) → (k : ℕ) → k < length table → T (test (from + k) (get_or table k 0))
passed_from test from [] t k h = absurd (omega arith)
passed_from test from (value ∷ rest) t zero h =
    subst (λ (place : ℕ). T (test place value)) (omega arith) (here (test from value) (passes test (suc from) rest) t)
passed_from test from (value ∷ rest) t (suc k) h =
    subst (λ (place : ℕ). T (test place (get_or rest k 0))) (omega arith)
    (passed_from test (suc from) rest (there (test from value) (passes test (suc from) rest) t) k (omega arith))

-- a rule that the whole table passes holds at each place of it
pub entry : (test : ℕ → ℕ → Bool) (table : List ℕ) → T (passes test 0 table) → (k : ℕ) → k < length table → T (test k (get_or table k 0))
entry test table t k h = subst (λ (place : ℕ). T (test place (get_or table k 0))) (omega arith) (passed_from test 0 table t k h)
