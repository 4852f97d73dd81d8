-- The fourteen parameters in register order (01, "Register map"), and the lengths that they give in both formats (02, Q-4). Assumes nothing.
use Rattle.std.specs.Prelude.{ℕ, ◌+◌, ◌*◌, ◌/◌, Bool, false, cond, List, get_or}
use Rattle.units.specs.declared.Screen.{Screen}

-- the registers #021 to #02E as a screen of a format, its first field
unfoldable pub screen_of : List ℕ → Bool → Screen
screen_of params interlaced =
    record {
      halfsync = record { 0 = get_or params 0 0 };
      backporch = record { 0 = get_or params 1 0 };
      display = record { 0 = get_or params 2 0 };
      shortdisplay = record { 0 = get_or params 3 0 };
      broadpulse = record { 0 = get_or params 4 0 };
      vsync = record { 0 = get_or params 5 0 };
      vpreequalise = record { 0 = get_or params 6 0 };
      vpostequalise = record { 0 = get_or params 7 0 };
      vblank = record { 0 = get_or params 8 0 };
      vdisplay = record { 0 = get_or params 9 0 };
      linetime = record { 0 = get_or params 10 0 };
      linestart = record { 0 = get_or params 11 0 };
      meminit = record { 0 = get_or params 12 0 };
      transferdelay = record { 0 = get_or params 13 0 };
      interlaced = interlaced;
      second = false;
    }

-- the same screen's first field or its second
abbrev pub in_field : Bool → Screen → Screen
in_field second s =
    record {
      halfsync = s.halfsync;
      backporch = s.backporch;
      display = s.display;
      shortdisplay = s.shortdisplay;
      broadpulse = s.broadpulse;
      vsync = s.vsync;
      vpreequalise = s.vpreequalise;
      vpostequalise = s.vpostequalise;
      vblank = s.vblank;
      vdisplay = s.vdisplay;
      linetime = s.linetime;
      linestart = s.linestart;
      meminit = s.meminit;
      transferdelay = s.transferdelay;
      interlaced = s.interlaced;
      second = second;
    }

-- ticks of a half line
abbrev pub half_ticks : Screen → ℕ
half_ticks s = s.linetime.0 / 2

-- ticks of a line before its Display
abbrev pub display_from : Screen → ℕ
display_from s = 2 * s.halfsync.0 + s.backporch.0

-- half lines of a field before VBlank, before VDisplay, and in all: the periods in frame order, not in register order
abbrev pub halves_to_vblank : Screen → ℕ
halves_to_vblank s = s.vpreequalise.0 + s.vsync.0 + s.vpostequalise.0

abbrev pub halves_to_vdisplay : Screen → ℕ
halves_to_vdisplay s = halves_to_vblank s + s.vblank.0

abbrev pub halves_in_field : Screen → ℕ
halves_in_field s = halves_to_vdisplay s + s.vdisplay.0

-- an interlaced frame is two fields, any other one
abbrev pub fields : Screen → ℕ
fields s = cond s.interlaced 2 1

-- half the line time times the sum of the five half-line counts
abbrev pub field_ticks : Screen → ℕ
field_ticks s = half_ticks s * halves_in_field s

-- the lines that are displayed: a line is two half lines, and an interlaced frame has the half lines of two fields
abbrev pub displayed_lines : Screen → ℕ
displayed_lines s = cond s.interlaced s.vdisplay.0 (s.vdisplay.0 / 2)

-- R, the row length
abbrev pub row_length : Screen → ℕ
row_length s = s.meminit.0 + s.transferdelay.0
