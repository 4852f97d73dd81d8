-- A row as the code puts it, in bytes: black, bytes of the picture one after the other, black. Assumes nothing.
use Rattle.std.specs.Prelude.{ℕ, ◌+◌, ◌-◌, ◌*◌, ◌/◌, ◌^◌, ◌≤◌, ◌<◌, cond, not, ◌||◌, List, ltb, get_or}
use Rattle.weave.specs.declared.Weave.{Weave}
use Rattle.weave.specs.declared.Part.{Part}
use Rattle.weave.specs.Weave.{start_of, pixels_of, begin_of, is_of_b}

-- what the field has above the row, where along its rows it begins and ends, and where it begins in the picture
abbrev pub part_of : Weave → ℕ → Part
part_of w row =
    record {
      above = 3 * (row / 2 * w.width);
      from = 3 * start_of w (is_of_b row);
      until = 3 * (start_of w (is_of_b row) + pixels_of w (is_of_b row));
      begin = 3 * begin_of w (is_of_b row);
    }

-- byte k of a row
unfoldable pub byte_in : List ℕ → Part → ℕ → ℕ
byte_in picture p k =
    cond (ltb (p.above + k) p.from || not (ltb (p.above + k) p.until)) 0 (get_or picture (p.begin + (p.above + k - p.from)) 0)

-- numbers that keep each place of a row within 64 bits
pub record Small (w : Weave) (row : ℕ) : Type 0 where
  pub half : w.half ≤ w.width
  pub width : w.width < 0x10000
  pub whole : w.lines / 2 * w.width ≤ 2 ^ 31
  pub above : row / 2 * w.width ≤ 2 ^ 31
  pub start : start_of w (is_of_b row) ≤ w.width
  pub pixels : pixels_of w (is_of_b row) ≤ 2 ^ 32
  pub begin : begin_of w (is_of_b row) ≤ 2 ^ 32
