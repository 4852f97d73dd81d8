-- What callers know of a picture: the one condition is kept, and a refusal leaves everything as it was. Assumes nothing.
use Prim.Native.Nat.{ℕ}
use mathlib.Core.Bool.{Bool, true, false, cond}
use mathlib.Core.List.{List}
use mathlib.Core.Path.{◌≡◌}
use lib.Dec.{eqb}
use lib.ListN.{length}
use borrow.Author.Tests.{ne_eqb}
use Rattle.screen.specs.Totals.{frame_ticks}
use Rattle.registers.specs.declared.Registers.{Registers}
use Rattle.generator.specs.Rows.{screen}
use Rattle.generator.specs.Tick.{after}
use Rattle.generator.specs.Sound.{Sound}
use Rattle.generator.specs.declared.Generator.{Generator}
use Rattle.generator.proofs.Kept.{after_sound}
use Rattle.picture.specs.Picture.{picture_refusal, drawn_of, buffer_of}

module _ (r : Registers) (m : List ℕ) (g : Generator) (sound : Sound r g) where
  -- a picture keeps the one condition, as its ticks do
  pub drawn_sound : (size : ℕ) → Sound r (drawn_of r m g size).next
  unfolding drawn_of
  drawn_sound size = go (eqb (picture_refusal r m g size) 0)
    where
      go : (t : Bool) → Sound r (cond t (after r m g (frame_ticks (screen r))) g)
      go true = after_sound r m g sound (frame_ticks (screen r))
      go false = sound

-- refused: the generator given, and the buffer as it was
module _ (r : Registers) (m : List ℕ) (g : Generator) (before : List ℕ) (refused : picture_refusal r m g (length before) ≡ 0 → ⊥) where
  pub refused_next : (drawn_of r m g (length before)).next ≡ g
  unfolding drawn_of
  refused_next = simp (ne_eqb _ 0 refused)

  pub refused_bytes : buffer_of r m g before ≡ before
  unfolding buffer_of
  refused_bytes = simp (ne_eqb _ 0 refused)
