-- The turn of the comparison's loop, which keeps: what was found, and what is still to be found, is the whole. Assumes nothing.
use Prim.Native.Nat.{ℕ}
use mathlib.Core.Path.{◌≡◌, sym, ◌∙◌}
use mathlib.Core.Bool.{Bool, true, ◌&&◌, and_assoc, and-true}
use mathlib.Core.List.{List, [], ◌∷◌}
use native.Mathlib.Omega.{arith}
use lib.Dec.{eqb}
use lib.ListN.{length}
use borrow.Author.Tests.{eqb-true}
use Rattle.base.proofs.Bools.{both_hold}
use Rattle.vault.specs.Compare.{match, nine_long}

-- both are nine bytes long, so that one is as long as the other
pub same_long : (a b : List ℕ) → nine_long a b ≡ true → length a ≡ length b
same_long a b e =
    let parts = both_hold (eqb (length a) 9) (eqb (length b) 9) e in
    eqb-true (length a) 9 parts.0 ∙ sym (eqb-true (length b) 9 parts.1)

-- one byte more of each is looked at
module _ (a b a' b' : List ℕ) (x y : ℕ) (a_is : a ≡ x ∷ a') (b_is : b ≡ y ∷ b') where
  pub looked : (held whole : Bool) → (held && match a b) ≡ whole → ((held && eqb x y) && match a' b') ≡ whole
  unfolding match
  looked held whole kept = rw and_assoc (rw (a_is, b_is) at kept)

  pub as_many : length a ≡ length b → length a' ≡ length b'
  as_many e = let more : length (x ∷ a') ≡ length (y ∷ b') = rw (a_is, b_is) at e in omega (arith, more)

-- all were looked at
pub finished : (a b : List ℕ) (held whole : Bool) → length a ≡ 0 → length b ≡ 0 → (held && match a b) ≡ whole → held ≡ whole
unfolding match
finished [] [] held whole h k kept = sym (and-true held) ∙ kept
finished [] (y ∷ b) held whole h k kept = absurd (omega (arith, k))
finished (x ∷ a) b held whole h k kept = absurd (omega (arith, h))
