-- Refusal 10 (01, "Refusal numbers"): a screen parameter is out of range. Assumes nothing.
use Rattle.std.specs.Prelude.{ℕ, Bool, ◌||◌, ltb, eqb}
use Rattle.units.specs.declared.Screen.{Screen}

-- the largest screen parameter
abbrev pub most : ℕ
most = 4095

-- 0, or over the largest
abbrev pub out_of_range : ℕ → Bool
out_of_range n = eqb n 0 || ltb most n

-- 10: one other than LineStart is
abbrev pub refuses10 : Screen → Bool
refuses10 s =
    out_of_range s.halfsync.0 ||
    out_of_range s.backporch.0 ||
    out_of_range s.display.0 ||
    out_of_range s.shortdisplay.0 ||
    out_of_range s.broadpulse.0 ||
    out_of_range s.vsync.0 ||
    out_of_range s.vpreequalise.0 ||
    out_of_range s.vpostequalise.0 ||
    out_of_range s.vblank.0 ||
    out_of_range s.vdisplay.0 ||
    out_of_range s.linetime.0 ||
    out_of_range s.meminit.0 ||
    out_of_range s.transferdelay.0
