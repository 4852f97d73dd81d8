-- The first visible tick of a field, by its number (01, "Rows and pixels"; 02, Q-4): what the request's prelude ends at. Assumes nothing.
use Rattle.std.specs.Prelude.{ℕ, ◌+◌, cond, ltb, eqb}
use Rattle.units.specs.Parameters.{half_ticks, display_from, halves_to_vdisplay}
use Rattle.units.specs.declared.Screen.{Screen}
use Rattle.lines.specs.Lines.{lead, tick_number}

-- VDisplay's first Display tick: from a line's beginning at Display's first; with a lead at once, or, with Display passed, in the next line, which
-- a field without a visible tick does not reach
unfoldable pub first_visible : Screen → ℕ
first_visible s =
    tick_number s (halves_to_vdisplay s) 0
    + cond (eqb (lead s) 0) (display_from s) (cond (ltb (lead s) s.display.0) 0 (half_ticks s + display_from s))
