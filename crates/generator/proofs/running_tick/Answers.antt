-- `generator::running_tick` meets its contract: 20 or the four parts of an accepted tick.
use mathlib.Core.Path.{sym, ap, ◌∙◌}
use Rattle.registers.specs.File.{file_with}
use Rattle.registers.specs.declared.Registers.{Registers}
use Rattle.generator.specs.Tick.{signals_with}
use Rattle.generator.proofs.Bare.{stands_whole, refuses_bare, step_bare, signals_bare}
use Rattle.generator.proofs.Puts.{sums_by, tick_20, tick_0}
use Rattle.generator.proofs.running_tick.Goals as goal

pub returns-then-refused : goal.returns-then-refused
returns-then-refused c =
    let r : Registers = file_with c.args.n c.args.tables in
    record { ticked = tick_20 (r) c.args.g c.args.memory.now c.requires.runs _ c.silence.ensures.signals (sym (refuses_bare (r) c.args.g c.args.memory.now) ∙ sym c.is_refused-refused.ensures.refusal ∙ c.if-refused.true) }

pub returns : goal.returns
returns c =
    let r : Registers = file_with c.args.n c.args.tables in
    record { ticked = tick_0 (r) c.args.g c.args.memory.now c.requires.runs (sym (refuses_bare (r) c.args.g c.args.memory.now) ∙ sym c.is_refused-refused.ensures.refusal ∙ c.if-refused.false) _ _ _ (c.signals_of-signals.ensures.signals ∙ signals_bare (r) c.args.g _ ∙ ap (signals_with (r) c.args.g) c.dots_of-dots.ensures.dots) (sums_by (r) c.args.memory.now c.args.g _ (stands_whole (r) c.args.g _ c.stand_of-t.ensures.stands) _ c.dots_of-dots.ensures.dots _ c.colours-four.ensures.colours _ c.tallied-sums.ensures.sums) (c.next_of-next.ensures.next ∙ step_bare (r) c.args.g _) }
