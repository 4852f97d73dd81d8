-- A stretch of pixels: that it fits, and what of it may lie under the cursor. Assumes nothing.
use Rattle.std.specs.Prelude.{ℕ, ◌+◌, ◌*◌, ◌^◌, ◌≤◌, ◌<◌, List, ◌≡◌}
use Rattle.cursor.specs.Cursor.{code_over}
use Rattle.picture.specs.declared.stretch.Columns.{Columns}
use Rattle.picture.specs.declared.stretch.Stretch.{Stretch}

-- a stretch fits: its bytes in a buffer of that size, its columns in 32 bits, its places in 64
pub record Small (s : Stretch) (size : ℕ) : Type 0 where
  pub bytes : s.at + 3 * s.count ≤ size
  pub columns : s.x + s.count < 2 ^ 32
  pub places : s.from + s.count < 2 ^ 64

-- of a stretch, no pixel before `left` and none from `right` on lies under the cursor
pub record Clipped (control position : ℕ) (s : Stretch) (c : Columns) : Type 0 where
  pub order : c.left ≤ c.right
  pub end : c.right ≤ s.count
  pub before : (store : List ℕ) (j : ℕ) → j < c.left → code_over control position store (s.x + j) s.y ≡ 0
  pub after : (store : List ℕ) (j : ℕ) → c.right ≤ j → j < s.count → code_over control position store (s.x + j) s.y ≡ 0
