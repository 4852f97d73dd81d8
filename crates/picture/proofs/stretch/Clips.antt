-- What of a stretch the cursor may cover. Assumes nothing.
use Prim.Native.Nat.{ℕ, ◌+◌, ◌-◌, min}
use mathlib.Core.Bool.{Bool, true, false, ◌&&◌}
use mathlib.Core.List.{List}
use mathlib.Core.Logic.{inl, inr}
use mathlib.Core.Path.{◌≡◌, refl, sym}
use native.Mathlib.Omega.{arith}
use borrow.Author.Tests.{ltb-false, leb-false}
use lib.Dec.{ltb, leb}
use Rattle.control.specs.Control.{cursor_on}
use Rattle.cursor.specs.Cursor.{first_column, first_line, code_over}
use Rattle.cursor.proofs.Clear.{off, beside, above}
use Rattle.picture.specs.Stretch.{Clipped}
use Rattle.picture.specs.declared.stretch.Stretch.{Stretch}

module _ (control position : ℕ) (s : Stretch) (on : Bool) (eo : on ≡ cursor_on control) (first top : ℕ) (ef : first ≡ first_column position) (et : top ≡ first_line position) where
  pub clip_columns : (left right : ℕ) → left ≡ min (first - (s.x + 2048)) s.count → right ≡ min (first + 64 - (s.x + 2048)) s.count → Clipped control position s (record { left = left; right = right })
  clip_columns left right el er =
      record {
        order = omega arith;
        end = omega arith;
        before = λ store j h. beside control position store (s.x + j) s.y (rw (← ef) (inl (omega arith)));
        after = λ store j h l. beside control position store (s.x + j) s.y (rw (← ef) (inr (omega arith)));
      }

  pub clip_nothing : ((on && leb top (s.y + 2048)) && ltb (s.y + 2048) (top + 64)) ≡ false → Clipped control position s (record { left = 0; right = 0 })
  clip_nothing n =
      record {
        order = omega arith;
        end = omega arith;
        before = λ store j h. absurd (omega arith);
        after = λ store j h l. go store j on eo (leb top (s.y + 2048)) refl (ltb (s.y + 2048) (top + 64)) refl n;
      }
    where
      go : (store : List ℕ) (j : ℕ) (a : Bool) → a ≡ cursor_on control → (b : Bool) → leb top (s.y + 2048) ≡ b → (c : Bool) → ltb (s.y + 2048) (top + 64) ≡ c → ((a && b) && c) ≡ false → code_over control position store (s.x + j) s.y ≡ 0
      go store j false ea b eb c ec n = off control position store (s.x + j) s.y (sym ea)
      go store j true ea false eb c ec n = above control position store (s.x + j) s.y (rw (← et) (inl (leb-false _ _ eb)))
      go store j true ea true eb false ec n = above control position store (s.x + j) s.y (rw (← et) (inr (ltb-false _ _ ec)))
      go store j true ea true eb true ec n = absurd (let z : ◌≡◌ {A = ℕ} 0 1 = cc in omega arith)
