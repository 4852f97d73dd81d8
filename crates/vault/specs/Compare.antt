-- The comparison of two checksums (01, "Rows and pixels"; "Refusal numbers", 24). Assumes nothing.
use Rattle.std.specs.Prelude.{ℕ, Bool, true, false, cond, ◌&&◌, List, [], ◌∷◌, eqb, length}
use Rattle.vault.specs.declared.Comparison.{Comparison}

-- each byte of one is that of the other
unfoldable pub match : List ℕ → List ℕ → Bool
match [] [] = true
match [] (y ∷ b) = false
match (x ∷ a) [] = false
match (x ∷ a) (y ∷ b) = eqb x y && match a b

-- both are nine bytes long
abbrev pub nine_long : List ℕ → List ℕ → Bool
nine_long a b = eqb (length a) 9 && eqb (length b) 9

-- 24 unless both are nine bytes long; then equal exactly when all nine are
abbrev pub compared : List ℕ → List ℕ → Comparison
compared a b = record { refusal = cond (nine_long a b) 0 24; equal = nine_long a b && match a b }
