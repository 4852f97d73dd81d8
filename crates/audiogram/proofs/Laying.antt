-- The picture laid into a memory, as much of it as there is room for. Assumes nothing.
use Prim.Native.Nat.{ℕ, min}
use mathlib.Core.Path.{◌≡◌, refl, sym, ◌∙◌}
use mathlib.Core.Bool.{Bool, true, false}
use mathlib.Core.List.{List, ◌++◌}
use native.Mathlib.Omega.{arith}
use borrow.Author.Tests.{leb-true, leb-false}
use lib.Dec.{leb}
use lib.ListN.{length, drop, drop_of_length-le}
use Rattle.base.specs.Count.{run}
use Rattle.audiogram.specs.Picture.{size, byte_at, drawn}

module _ (n : Bool) (right left memory : List ℕ) where
  pub laid_whole : (now : List ℕ) (i : ℕ) → i ≡ min (length memory) (size n) → now ≡ run (byte_at n right left) 0 i ++ drop i memory → now ≡ drawn n right left memory
  unfolding drawn
  laid_whole now i e h = h ∙ rw (go (leb (size n) (length memory)) refl, e)
    where
      go : (b : Bool) → leb (size n) (length memory) ≡ b → drop i memory ≡ drop (size n) memory
      go true t = let whole : i ≡ size n = omega (arith, leb-true (size n) (length memory) t, e) in rw whole
      go false t =
          let short = leb-false (size n) (length memory) t in
          drop_of_length-le memory {i = i} (omega (arith, short, e)) ∙ sym (drop_of_length-le memory {i = size n} (omega (arith, short)))
