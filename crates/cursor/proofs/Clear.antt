-- Where the cursor has no code: left of it, right of it, above it, below it, and switched off. Assumes nothing.
use Prim.Native.Nat.{ℕ, zero, suc, ◌+◌, ◌/◌, ◌%◌, ◌≤◌, ◌<◌}
use mathlib.Core.Bool.{Bool, true, false, cond, ◌&&◌, true≢false}
use mathlib.Core.List.{List}
use mathlib.Core.Logic.{◌⊎◌, inl, inr, ⊎_elim}
use mathlib.Core.Path.{◌≡◌, refl, sym}
use native.Mathlib.Omega.{arith}
use borrow.Author.Tests.{lt-ltb, le-ltb, ltb-true, ltb-false, leb-false}
use lib.Dec.{ltb, leb}
use lib.IntN.{pos, ◌-ℤ◌}
use Rattle.control.specs.Control.{field, cursor_on}
use Rattle.cursor.specs.Cursor.{signed12, biased, first_column, first_line, within, cursor_code, code_over, others, near}
use Rattle.cursor.proofs.Cases.{code_beside, code_above}

-- outside the 64 from a place on, all counted so
abbrev pub Outside : ℕ → ℕ → Type 0
Outside first at = (at < first) ⊎ (first + 64 ≤ at)

difference : (x f : ℕ) → Outside f x → 64 ≤ within (pos x -ℤ pos f)
difference x zero o = ⊎_elim (λ h. absurd (omega arith)) (λ h. omega arith) o
difference x (suc f) o = ⊎_elim (λ h. simp (lt-ltb x (suc f) h) (omega arith)) (λ h. simp (le-ltb x (suc f) (omega arith)) (omega arith)) o

outside : (f x : ℕ) → f < 4096 → Outside (biased f) (x + 2048) → 64 ≤ within (pos x -ℤ signed12 f)
outside f x p o = go (ltb f 2048) refl
  where
    go : (t : Bool) → ltb f 2048 ≡ t → 64 ≤ within (pos x -ℤ cond t (pos f) (pos f -ℤ pos 4096))
    go true e = let h = ltb-true f 2048 e in difference x f (⊎_elim (λ l. inl (omega arith)) (λ l. inr (omega arith)) o)
    go false e = let h = ltb-false f 2048 e in simp (lt-ltb f 4096 p) (⊎_elim (λ l. absurd (omega arith)) (λ l. omega arith) o)

module _ (control position : ℕ) (store : List ℕ) (x y : ℕ) where
  pub off : cursor_on control ≡ false → code_over control position store x y ≡ 0
  off e = simp e

  none : 0 ≡ cursor_code store position x y → code_over control position store x y ≡ 0
  none e = go (cursor_on control)
    where
      go : (t : Bool) → cond t (cursor_code store position x y) 0 ≡ 0
      go true = sym e
      go false = refl

  pub beside : Outside (first_column position) (x + 2048) → code_over control position store x y ≡ 0
  beside o =
      let e : field 0 12 (position / 0x1000) ≡ position / 0x1000 % 0x1000 = omega arith in
      none (code_beside store position x y (outside (field 0 12 (position / 0x1000)) x (omega arith) (rw e o)))

  pub above : Outside (first_line position) (y + 2048) → code_over control position store x y ≡ 0
  above o =
      let e : field 0 12 position ≡ position % 0x1000 = omega arith in
      none (code_above store position x y (outside (field 0 12 position) y (omega arith) (rw e o)))

-- four pixels that it is not near have none
pub near_none : (control position : ℕ) (x y : ℕ) → (cursor_on control && near position x y) ≡ false → (store : List ℕ) (k : ℕ) → k < 4 → code_over control position store (x + k) y ≡ 0
near_none control position x y n store k l =
    go (cursor_on control) refl (leb top line) refl (ltb line (top + 64)) refl (leb first (x + 2048 + others)) refl (ltb (x + 2048) (first + 64)) refl n
  where
    top : ℕ
    top = first_line position

    first : ℕ
    first = first_column position

    line : ℕ
    line = y + 2048

    go : (a : Bool) → cursor_on control ≡ a → (b : Bool) → leb top line ≡ b → (c : Bool) → ltb line (top + 64) ≡ c → (d : Bool) → leb first (x + 2048 + others) ≡ d → (e : Bool) → ltb (x + 2048) (first + 64) ≡ e →
        (a && (b && c && d && e)) ≡ false → code_over control position store (x + k) y ≡ 0
    go false ea b eb c ec d ed e ee n = off control position store (x + k) y ea
    go true ea false eb c ec d ed e ee n = above control position store (x + k) y (inl (leb-false _ _ eb))
    go true ea true eb false ec d ed e ee n = above control position store (x + k) y (inr (ltb-false _ _ ec))
    go true ea true eb true ec false ed e ee n = beside control position store (x + k) y (inl (omega (arith, leb-false first (x + 2048 + others) ed)))
    go true ea true eb true ec true ed false ee n = beside control position store (x + k) y (inr (omega (arith, ltb-false (x + 2048) (first + 64) ee)))
    go true ea true eb true ec true ed true ee n = absurd (true≢false n)
