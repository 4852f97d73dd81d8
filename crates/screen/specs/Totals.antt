-- What one frame comes to (01, "The bench screen and its neighbours", first row; demand 3; 02, Q-4). Assumes nothing.
use Rattle.std.specs.Prelude.{ℕ, ◌+◌, ◌-◌, ◌*◌, ◌/◌, true, false, cond, List, eqb}
use Rattle.units.specs.Parameters.{screen_of, in_field, fields, field_ticks, displayed_lines, row_length}
use Rattle.control.specs.Control.{interlaced}
use Rattle.lines.specs.Lines.{field_visible}
use Rattle.screen.specs.Limits.{limit_of}
use Rattle.units.specs.declared.Screen.{Screen}
use Rattle.screen.specs.declared.totals.Totals.{Totals}

-- half the line time times the sum of the five half-line counts, for each field
abbrev pub frame_ticks : Screen → ℕ
frame_ticks s = fields s * field_ticks s

-- Display for each displayed line
abbrev pub frame_visible : Screen → ℕ
frame_visible s = s.display.0 * displayed_lines s

-- n over d, rounded up
abbrev pub rounded_up : ℕ → ℕ → ℕ
rounded_up n d = (n + (d - 1)) / d

-- the visible ticks of a field over the row length, rounded up; and of the frame's one field or both
abbrev pub field_transfers : Screen → ℕ
field_transfers s = rounded_up (field_visible s) (row_length s)

abbrev pub frame_transfers : Screen → ℕ
frame_transfers s = field_transfers (in_field false s) + cond s.interlaced (field_transfers (in_field true s)) 0

-- four pixels to a visible tick
abbrev pub frame_pixels : Screen → ℕ
frame_pixels s = 4 * frame_visible s

abbrev pub frame_totals : Screen → Totals
frame_totals s =
    record {
      refusal = 0;
      ticks = record { 0 = frame_ticks s };
      visible = record { 0 = frame_visible s };
      transfers = frame_transfers s;
      pixels = record { 0 = frame_pixels s };
    }

-- a refusal answers its number, and 0 for all else
abbrev pub refused : ℕ → Totals
refused n = record { refusal = n; ticks = record { 0 = 0 }; visible = record { 0 = 0 }; transfers = 0; pixels = record { 0 = 0 } }

-- the control word is asked for its format and, for the limits, its depth, and for nothing else: bit 0 counts no more than the rest, a word with
-- transfers off gets the transfers that it would have with them on, and one outside the build what its two bits of depth say
unfoldable pub totals_of : ℕ → List ℕ → Totals
totals_of control params =
    cond (eqb (limit_of control (screen_of params (interlaced control))) 0)
    (frame_totals (screen_of params (interlaced control)))
    (refused (limit_of control (screen_of params (interlaced control))))
