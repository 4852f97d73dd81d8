-- Ticks before VDisplay (01, "Lines and frames"): nothing shows, and nothing but the place moves. Assumes nothing.
use Rattle.std.specs.Prelude.{ℕ, ◌*◌, ◌/◌, ◌%◌}
use Rattle.units.specs.Parameters.{half_ticks, halves_to_vdisplay}
use Rattle.units.specs.declared.Screen.{Screen}
use Rattle.lines.specs.Lines.{tick_number}
use Rattle.generator.specs.declared.Generator.{Generator}

-- the number in its field of a generator's next tick
abbrev pub field_tick : Screen → Generator → ℕ
field_tick s g = tick_number s g.half.0 g.at.0

-- the ticks of a field before VDisplay
abbrev pub ticks_to_vdisplay : Screen → ℕ
ticks_to_vdisplay s = halves_to_vdisplay s * half_ticks s

-- the generator before tick n of its field, with all else as it was
abbrev pub moved_to : Screen → Generator → ℕ → Generator
moved_to s g n =
    record {
      second = g.second;
      half = record { 0 = n / half_ticks s };
      at = record { 0 = n % half_ticks s };
      seen = g.seen;
      held = g.held;
      asked = g.asked;
      sums = g.sums;
    }
