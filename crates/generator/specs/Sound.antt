-- The one condition (01, "What nobody may get past"): what every record satisfies that the calls can give from the beginning.
-- Assumes nothing.
use Rattle.std.specs.Prelude.{ℕ, ◌^◌, ◌<◌, true, false, ◌≡◌}
use Rattle.control.specs.Control.{running, outside}
use Rattle.units.specs.Parameters.{half_ticks, halves_in_field}
use Rattle.screen.specs.Limits.{Bounded, Accepted}
use Rattle.units.specs.declared.Screen.{Screen}
use Rattle.registers.specs.File.{InWidths}
use Rattle.registers.specs.declared.Registers.{Registers}
use Rattle.lines.specs.Lines.{tick_number, visible_before}
use Rattle.pixel.specs.Sums.{Below24}
use Rattle.generator.specs.Rows.{screen, field_at}
use Rattle.generator.specs.declared.Generator.{Generator}

-- the generator stands inside its field, and has counted the field's visible ticks before its place; only an interlaced frame has a second field
pub record Placed (s : Screen) (g : Generator) : Type 0 where
  pub field_in : g.second ≡ true → s.interlaced ≡ true
  pub half_in : g.half.0 < halves_in_field s
  pub at_in : g.at.0 < half_ticks s
  pub seen_is : g.seen.0 ≡ visible_before s (tick_number s g.half.0 g.at.0)

-- what the code asks of a screen and of a position in it
pub record Inside (control : ℕ) (s : Screen) (half at : ℕ) : Type 0 where
  pub accepted : Accepted control s
  pub bounded : Bounded 0xFFFFFF s
  pub half_in : half < halves_in_field s
  pub at_in : at < half_ticks s

-- the address held and the three sums are numbers of 24 bits
pub record Rolled (g : Generator) : Type 0 where
  pub held : g.held < 2 ^ 24
  pub sums : Below24 g.sums

-- registers within their widths and control within the build; the generator's numbers within 24 bits; running, the limits hold and the
-- generator is placed
pub record Sound (r : Registers) (g : Generator) : Type 0 where
  pub widths : InWidths r
  pub in_build : outside r.control ≡ false
  pub rolled : Rolled g
  pub accepted : running r.control ≡ true → Accepted r.control (screen r)
  pub placed : running r.control ≡ true → Placed (field_at r g) g
