-- `generator::tick_with` meets its contract: 23, or the tick of a running generator, which the one condition places.
use mathlib.Core.Path.{sym, ◌∙◌}
use Rattle.registers.specs.File.{file_with}
use Rattle.registers.specs.declared.Registers.{Registers}
use Rattle.generator.proofs.Puts.{tick_23}
use Rattle.generator.proofs.tick_with.Goals as goal

pub returns : goal.returns
returns c =
    let r : Registers = file_with c.args.n c.args.tables in
    record { ticked = tick_23 (r) c.args.g c.args.memory.now _ c.silence.ensures.signals (sym c.is_running-runs.ensures.bit ∙ c.if-runs.false) }
