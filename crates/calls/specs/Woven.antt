-- An interlaced picture woven for a file (02, Q-4): where the pixels of its ticks stand. Assumes nothing.
use Rattle.std.specs.Prelude.{ℕ, ◌+◌, ◌-◌, ◌*◌, ◌/◌, ◌%◌, ◌≤◌, ◌<◌, Bool, true, false, cond, List, ◌≡◌, get_or}
use Rattle.units.specs.Parameters.{in_field, halves_to_vdisplay}
use Rattle.lines.specs.Lines.{second_half}
use Rattle.registers.specs.declared.Registers.{Registers}
use Rattle.generator.specs.Rows.{screen}
use Rattle.frame.specs.Frame.{pixels_seen}
use Rattle.frame.specs.Demand.{in_lines_of}
use Rattle.weave.specs.declared.Weave.{Weave}
use Rattle.weave.specs.Weave.{is_weave, is_row, byte_at, byte_of}
use Rattle.weave.specs.Once.{Place, row_in, place_of, Once}
use Rattle.calls.specs.declared.Size.{Size}

-- the weave of an interlaced picture of a size, whose first field begins with a first half
abbrev pub weave_of : Size → Weave
weave_of z = record { width = z.width; lines = z.height - 1; half = z.half; late = false }

-- the number in the picture of pixel i of a field: the first field's pixels, and then the second's
abbrev pub number_of : Registers → Bool → ℕ → ℕ
number_of r second i = cond second (pixels_seen r false + i) i

-- where a tube shows it: the line and the column of its tick, and each line of the second field above the first's of that number
abbrev pub tube_at : Registers → Bool → ℕ → Place
tube_at r second i =
    record {
      row = row_in second (in_lines_of r second i / (4 * (screen r).display.0));
      column = in_lines_of r second i % (4 * (screen r).display.0);
    }

-- the first field begins with a first half and the second with a second half; the weave has Display's pixels in a line and VDisplay lines, and the
-- pixels of both fields, and 49,140 bytes hold a row; each pixel of the ticks stands where a tube shows it, once, and its three bytes there
pub record Woven (r : Registers) (w : Weave) : Type 0 where
  pub halves : (second : Bool) → second_half (in_field second (screen r)) (halves_to_vdisplay (screen r)) ≡ second
  pub weave : is_weave w ≡ true
  pub some : 0 < w.half
  pub width : w.width ≡ 4 * (screen r).display.0
  pub lines : w.lines ≡ (screen r).vdisplay.0
  pub pixels : w.lines * w.width ≡ pixels_seen r false + pixels_seen r true
  pub placed : (second : Bool) (i : ℕ) → i < pixels_seen r second → place_of w (number_of r second i) ≡ tube_at r second i
  pub rows : (row size : ℕ) → row ≤ w.lines → 49140 ≤ size → is_row w row size ≡ true
  pub once : Once w
  pub shown : (picture : List ℕ) (second : Bool) (i channel : ℕ) → i < pixels_seen r second → channel < 3 → byte_at w picture (byte_of w (tube_at r second i).row (tube_at r second i).column channel) ≡ get_or picture (3 * number_of r second i + channel) 0
