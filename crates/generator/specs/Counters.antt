-- The generator record at its beginning (01, "Starting a screen"), whether its next tick is a frame's first (01, "Refusal numbers", 22), and
-- whether it is out of flyback (01, "Refusal numbers", 5). Assumes nothing.
use Rattle.std.specs.Prelude.{Bool, false, not, ◌&&◌, eqb}
use Rattle.control.specs.Control.{running}
use Rattle.registers.specs.declared.Registers.{Registers}
use Rattle.pixel.specs.Sums.{none}
use Rattle.lines.specs.Lines.{period, is_vdisplay}
use Rattle.generator.specs.Rows.{field_at}
use Rattle.generator.specs.declared.Generator.{Generator}

-- a generator before the first tick of PreEqualise in the first field, checksums at zero
abbrev pub fresh : Generator
fresh =
    record {
      second = false;
      half = record { 0 = 0 };
      at = record { 0 = 0 };
      seen = record { 0 = 0 };
      held = 0;
      asked = false;
      sums = none;
    }

-- before the first tick of a frame: in its first field half line 0, tick 0
abbrev pub is_start : Generator → Bool
is_start g = not g.second && (eqb g.half.0 0 && eqb g.at.0 0)

-- running, and the next tick not in flyback: it lies in VDisplay of either field
unfoldable pub displaying : Registers → Generator → Bool
displaying r g = running r.control && is_vdisplay (period (field_at r g) g.half.0)
