-- `generator::is_displaying` meets its contract: the period of a running generator's next tick.
use Prim.Native.Nat.{◌<◌, ◌^◌}
use mathlib.Core.Bool.{Bool, true, false}
use Rattle.units.specs.Parameters.{screen_of}
use mathlib.Core.Path.{◌≡◌, sym, ◌∙◌}
use native.Mathlib.Omega.{arith}
use Rattle.control.specs.Control.{running}
use Rattle.screen.proofs.limits.Laws.{narrow}
use Rattle.registers.specs.declared.Registers.{Registers}
use Rattle.lines.specs.Lines.{period, is_vdisplay}
use Rattle.generator.specs.Sound.{Sound}
use Rattle.generator.specs.Rows.{screen}
use Rattle.generator.specs.Counters.{displaying}
use Rattle.generator.specs.declared.Generator.{Generator}
use Rattle.generator.proofs.is_displaying.Goals as goal

-- a running generator's half line fits 32 bits
half_in : (r : Registers) (g : Generator) → Sound r g → running r.control ≡ true → g.half.0 < 2 ^ 32
half_in r g k on =
    let b = narrow (screen r) (k.accepted on).bounded in
    omega (arith, (k.placed on).half_in, b.vpreequalise.high, b.vsync.high, b.vpostequalise.high, b.vblank.high, b.vdisplay.high)

lit : (r : Registers) (g : Generator) (b : Bool) → running r.control ≡ true → b ≡ is_vdisplay (period (screen_of r.params false) g.half.0) → b ≡ displaying r g
unfolding displaying screen_of period
lit r g b on e = rw on e

dark : (r : Registers) (g : Generator) → running r.control ≡ false → false ≡ displaying r g
unfolding displaying
dark r g off = rw off

pub returns-then-runs : goal.returns-then-runs
returns-then-runs c = record { test = lit c.args.r c.args.g _ (sym c.is_running-runs.ensures.bit ∙ c.if-runs.true) c.is_vdisplay.ensures.test }

pub returns : goal.returns
returns c = record { test = dark _ _ (sym c.is_running-runs.ensures.bit ∙ c.if-runs.false) }
