-- Lines and frames (01, the section of that name; 02, Q-4): where a tick stands. s: the screen in its field, half: the half line's number in
-- the field, at: the tick's number in the half line. A frame that is not interlaced is one field. Assumes nothing.
use Rattle.std.specs.Prelude.{ℕ, ◌+◌, ◌-◌, ◌*◌, ◌/◌, ◌%◌, min, Bool, true, false, not, cond, ◌&&◌, ◌||◌, ltb, leb, eqb}
use Rattle.base.specs.Count.{count}
use Rattle.units.specs.Parameters.{half_ticks, display_from, halves_to_vblank, halves_to_vdisplay, halves_in_field}
use Rattle.units.specs.declared.Screen.{Screen}
use Rattle.lines.specs.declared.Ends.{Ends}
use Rattle.lines.specs.declared.Period.{Period}
use Rattle.lines.specs.declared.Moment.{Moment}
use Rattle.lines.specs.declared.Period.TheVariants.{PreEqualise, VSync, PostEqualise, VBlank, VDisplay}

-- a field is its five periods, counted in half lines
unfoldable pub period : Screen → ℕ → Period
period s half =
    cond (ltb half s.vpreequalise.0) PreEqualise
    (cond (ltb half (s.vpreequalise.0 + s.vsync.0)) VSync
    (cond (ltb half (halves_to_vblank s)) PostEqualise
    (cond (ltb half (halves_to_vdisplay s)) VBlank
    VDisplay)))

-- the half lines before the end of each period but the last, as the code has them
abbrev pub ends_of : Screen → Ends
ends_of s = record { pre = s.vpreequalise.0; sync = s.vpreequalise.0 + s.vsync.0; post = halves_to_vblank s; blank = halves_to_vdisplay s }

abbrev pub is_vsync : Period → Bool
is_vsync PreEqualise = false
is_vsync VSync = true
is_vsync PostEqualise = false
is_vsync VBlank = false
is_vsync VDisplay = false

abbrev pub is_vdisplay : Period → Bool
is_vdisplay PreEqualise = false
is_vdisplay VSync = false
is_vdisplay PostEqualise = false
is_vdisplay VBlank = false
is_vdisplay VDisplay = true

-- full lines are two half lines each. Interlaced, half lines are numbered through the frame, so those before the field are added; otherwise
-- lines count from VBlank's first half line, and those before it are added, since the parity of a sum is that of the difference
unfoldable pub line_from : Screen → ℕ
line_from s = cond s.interlaced (cond s.second (halves_in_field s) 0) (halves_to_vblank s)

-- the full line that a half line is part of, by a number that goes up by one from line to line
unfoldable pub line_of : Screen → ℕ → ℕ
line_of s half = (half + line_from s) / 2

-- the half line is the second half of its line (it means something in VBlank and VDisplay only)
unfoldable pub second_half : Screen → ℕ → Bool
second_half s half = eqb ((half + line_from s) % 2) 1

-- the tick's number in its full line
unfoldable pub in_line : Screen → ℕ → ℕ → ℕ
in_line s half at = cond (second_half s half) (half_ticks s + at) at

-- a full line is twice HalfSync, BackPorch, Display, then front porch
abbrev pub in_display : Screen → ℕ → Bool
in_display s tick = leb (display_from s) tick && ltb tick (display_from s + s.display.0)

-- a visible tick is a Display tick inside VDisplay
unfoldable pub visible : Screen → ℕ → ℕ → Bool
visible s half at = is_vdisplay (period s half) && in_display s (in_line s half at)

-- Display ticks of the first displayed line that lie before the first VDisplay tick: none unless VDisplay begins with a second half
unfoldable pub lead : Screen → ℕ
lead s = min s.display.0 (in_line s (halves_to_vdisplay s) 0 - display_from s)

-- how far a tick is past the beginning of Display, past its end too: at a visible tick its column, in ticks
unfoldable pub column_of : Screen → ℕ → ℕ → ℕ
column_of s half at = in_line s half at - display_from s

-- the full lines that lie between VDisplay's first line and a half line's: at a visible tick the lines above it
unfoldable pub lines_above : Screen → ℕ → ℕ
lines_above s half = line_of s half - line_of s (halves_to_vdisplay s)

-- sync is low, by the period; at: the tick's number in a cycle of half a line, tick: in the full line
abbrev pub low_in : Bool → ℕ → ℕ → Period → ℕ → ℕ → Bool
low_in plain halfsync broadpulse PreEqualise at tick = not plain && ltb at halfsync
low_in plain halfsync broadpulse VSync at tick = plain || ltb at broadpulse
low_in plain halfsync broadpulse PostEqualise at tick = not plain && ltb at halfsync
low_in plain halfsync broadpulse VBlank at tick = ltb tick (2 * halfsync)
low_in plain halfsync broadpulse VDisplay at tick = ltb tick (2 * halfsync)

abbrev pub sync_low : Screen → Bool → ℕ → ℕ → Bool
sync_low s plain half at = low_in plain s.halfsync.0 s.broadpulse.0 (period s half) at (in_line s half at)

-- the first tick of VDisplay
unfoldable pub opens : Screen → ℕ → ℕ → Bool
opens s half at = eqb half (halves_to_vdisplay s) && eqb at 0

-- the field's last tick
unfoldable pub closes : Screen → ℕ → ℕ → Bool
closes s half at = leb (halves_in_field s) (half + 1) && leb (half_ticks s) (at + 1)

-- one tick on: the next of the half line, the first of the next half line, or a field's first
unfoldable pub next_half : Screen → ℕ → ℕ → ℕ
next_half s half at = cond (ltb (at + 1) (half_ticks s)) half (cond (ltb (half + 1) (halves_in_field s)) (half + 1) 0)

unfoldable pub next_at : Screen → ℕ → ℕ
next_at s at = cond (ltb (at + 1) (half_ticks s)) (at + 1) 0

-- the field one tick on: an interlaced frame has two, one after the other
unfoldable pub next_second : Screen → ℕ → ℕ → Bool
next_second s half at = cond (closes s half at) (s.interlaced && not s.second) s.second

-- the tick's number in the field
abbrev pub tick_number : Screen → ℕ → ℕ → ℕ
tick_number s half at = half * half_ticks s + at

-- the visible ticks among the first n of a field, as if VDisplay went on past its end
unfoldable pub visible_before : Screen → ℕ → ℕ
visible_before s n = count (λ k. visible s (k / half_ticks s) (k % half_ticks s)) n

-- those before a tick of VDisplay, in closed form: Display for each line above, what the line at hand has passed of its own, but for what lay
-- before VDisplay; and those of the whole field
abbrev pub passed_before : Screen → ℕ → ℕ → ℕ
passed_before s half at = lines_above s half * s.display.0 + min s.display.0 (column_of s half at) - lead s

unfoldable pub field_visible : Screen → ℕ
field_visible s = passed_before s (halves_in_field s) 0

-- the moment of a place, all in one: a low sync, the column and the line of a visible tick, and the place one tick on
unfoldable pub moment_of : Screen → Bool → ℕ → ℕ → Moment
moment_of s plain half at =
    record {
      vsyncing = is_vsync (period s half);
      vdisplaying = is_vdisplay (period s half);
      visible = visible s half at;
      low = sync_low s plain half at;
      opens = opens s half at;
      closes = closes s half at;
      column = column_of s half at;
      line = lines_above s half;
      second = next_second s half at;
      half = next_half s half at;
      at = next_at s at;
    }
