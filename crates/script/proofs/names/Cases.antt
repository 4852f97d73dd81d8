-- A word's name is its place among the words, or how many they are. Assumes nothing.
use Prim.Native.Nat.{ℕ, ◌+◌}
use mathlib.Core.Bool.{Bool, true, false, cond}
use mathlib.Core.List.{List, [], ◌∷◌, map}
use mathlib.Core.Path.{◌≡◌, refl, sym}
use native.Mathlib.Omega.{arith}
use lib.Dec.{eqb}
use lib.ListN.{length}
use lib.Pointwise.{pointwise}
use Rattle.std.specs.Prelude.{Option, None, Some, MatchOption, unwrap_or}
use Rattle.std.specs.List.{position_from}
use Rattle.std.proofs.Common.{add-one}
use Rattle.vault.specs.Compare.{match}
use Rattle.script.specs.Names.{name_from}

-- the test that two lists are one is their match
same_match : (a b : List ℕ) → pointwise eqb a b ≡ match a b
unfolding match
same_match [] [] = refl
same_match [] (y ∷ b) = refl
same_match (x ∷ a) [] = refl
same_match (x ∷ a) (y ∷ b) = rw (same_match a b) refl

-- a place, or what stands for none
pub answered : {P : ℕ → Type 0} (place : Option ℕ) (none n : ℕ) → MatchOption place (n ≡ none) P → ((k : ℕ) → P k → n ≡ k) → n ≡ unwrap_or place none
answered None none n e f = e
answered (Some k) none n e f = f k e

next : (t : Bool) (k : ℕ) (place : Option ℕ) (n later : ℕ) → unwrap_or place (k + 1 + n) ≡ later → unwrap_or (cond t (Some k) place) (k + (n + 1)) ≡ cond t k later
next true k place n later e = refl
next false k place n later e =
    let same : k + (n + 1) ≡ k + 1 + n = omega arith in
    rw same e

module _ {W : Type 0} (text : W → List ℕ) (word : List ℕ) where
  abbrev pub is_word : W → Bool
  is_word w = pointwise eqb word (text w)

  -- the first of the words from k on that is the word gives its name
  pub name_at : (k : ℕ) (words : List W) → unwrap_or (position_from is_word k words) (k + length words) ≡ name_from k (map text words) word
  unfolding name_from
  name_at k [] = omega arith
  name_at k (w ∷ words) = rw (sym (same_match word (text w)), sym (add-one k), sym (add-one (length words))) (next (is_word w) k _ _ _ (name_at (k + 1) words))
