-- Cases of this crate's functions: the cursor's code and its colour. Assumes nothing.
use Prim.Native.Nat.{ℕ, zero, suc, ◌+◌, ◌*◌, ◌/◌, ◌^◌, ◌≤◌, ◌<◌}
use mathlib.Core.Path.{◌≡◌, refl, ◌∙◌}
use mathlib.Core.Bool.{and-false}
use mathlib.Core.List.{List}
use native.Mathlib.Nat.{pow-suc}
use native.Mathlib.Omega.{arith}
use borrow.Author.Tests.{lt-ltb, le-ltb}
use lib.IntN.{ℤ, pos, negsuc, ◌-ℤ◌}
use lib.Pow.{pow-add}
use Rattle.control.specs.Control.{field}
use Rattle.cursor.specs.Cursor.{signed12, code_at, code_within, cursor_code, within}

-- two bits a column
pub four_power : (n : ℕ) → 4 ^ n ≡ 2 ^ (2 * n)
four_power zero = refl
four_power (suc n) =
    let e : 2 * suc n ≡ 2 * n + 2 = omega arith in
    rw (e, pow-add, ← four_power n) (pow-suc 4 n)

module _ (store : List ℕ) where
  -- inside the cursor, and outside by a row or by a column
  code_inside : (row column : ℤ) → within row < 64 → within column < 64 → code_at store (within row) (within column) ≡ code_within store row column
  code_inside (pos row) (pos column) p q =
      let r : within (pos row) ≡ row = omega arith in
      let k : within (pos column) ≡ column = omega arith in
      rw (r, k, lt-ltb row 64 (omega arith), lt-ltb column 64 (omega arith))
  code_inside (pos row) (negsuc column) p q = absurd (omega arith)
  code_inside (negsuc row) column p q = absurd (omega arith)

  code_row_outside : (row column : ℤ) → 64 ≤ within row → 0 ≡ code_within store row column
  code_row_outside (pos row) (pos column) p = simp (le-ltb row 64 (omega arith))
  code_row_outside (pos row) (negsuc column) p = refl
  code_row_outside (negsuc row) column p = refl

  code_column_outside : (row column : ℤ) → 64 ≤ within column → 0 ≡ code_within store row column
  code_column_outside (pos row) (pos column) p = simp (le-ltb column 64 (omega arith), and-false)
  code_column_outside (pos row) (negsuc column) p = refl
  code_column_outside (negsuc row) column p = refl

-- the three ways out of `cursor_code`
module _ (store : List ℕ) (position x y : ℕ) where
  abbrev r : ℤ
  r = pos y -ℤ signed12 (field 0 12 position)

  abbrev k : ℤ
  k = pos x -ℤ signed12 (field 0 12 (position / 0x1000))

  whole : code_within store r k ≡ cursor_code store position x y
  unfolding cursor_code
  whole =
      let e : field 0 12 (position / 0x1000) ≡ field 12 12 position = omega arith in
      rw e

  pub code_under : (row column code : ℕ) → (row < 64) × (row ≡ within r) → (column < 64) × (column ≡ within k) → code ≡ code_at store row column → code ≡ cursor_code store position x y
  code_under row column code a b e = e ∙ rw (a.1, b.1) (code_inside store r k (rw a.1 at a.0) (rw b.1 at b.0)) ∙ whole

  pub code_beside : 64 ≤ within k → 0 ≡ cursor_code store position x y
  code_beside q = code_column_outside store r k q ∙ whole

  pub code_above : 64 ≤ within r → 0 ≡ cursor_code store position x y
  code_above p = code_row_outside store r k p ∙ whole
