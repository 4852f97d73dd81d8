-- The numbers of a field that may be drawn: 24 bits bound each. Assumes nothing.
use Prim.Native.Nat.{◌+◌, ◌*◌, ◌^◌, ◌≤◌, ◌<◌}
use mathlib.Core.Bool.{Bool, true, false}
use native.Mathlib.Nat.{mul-le-mul_right}
use native.Mathlib.Omega.{arith}
use Rattle.control.proofs.Laws.{increment_within, divisor_positive}
use Rattle.units.specs.Parameters.{in_field}
use Rattle.units.specs.declared.Screen.{Screen}
use Rattle.screen.specs.Limits.{Bounded}
use Rattle.screen.proofs.limits.Laws.{narrow}
use Rattle.screen.proofs.totals.Counts.{field_visible_fit}
use Rattle.lines.specs.Lines.{lead, field_visible}
use Rattle.lines.proofs.Halves.{visible_most}
use Rattle.registers.specs.declared.Registers.{Registers}
use Rattle.generator.specs.Rows.{screen}
use Rattle.picture.specs.Plan.{seen_before, plan_of, Drawable, Sized}

-- a field's lines, its lead with them
lines_most : (s : Screen) → Bounded 0xFFFFFF s → (second : Bool) → field_visible (in_field second s) + lead (in_field second s) ≤ 0x1000001 * s.display.0
unfolding lead
lines_most s b second = omega (arith, visible_most (in_field second s), mul-le-mul_right {m = s.vdisplay.0 + 2} {n = 0x1000001} s.display.0 (omega (arith, b.vdisplay.high)))

before_most : (r : Registers) → Bounded 0xFFFFFF (screen r) → (second : Bool) → seen_before r second < 2 ^ 49
before_most r b true = field_visible_fit (screen r) b false
before_most r b false = omega arith

pub sized : (r : Registers) → Drawable r → (second : Bool) → Sized (plan_of r second)
unfolding plan_of
sized r ok second =
    let b = narrow (screen r) ok.accepted.bounded in
    record {
      display = b.display.low;
      display_most = b.display.high;
      lines_most = lines_most (screen r) b second;
      before_most = before_most r b second;
      row = omega (arith, b.meminit.low);
      row_most = omega (arith, b.meminit.high, b.transferdelay.high);
      top = ok.top_in second;
      increment_most = (increment_within r.control).1;
      divisor = divisor_positive r.control;
    }
