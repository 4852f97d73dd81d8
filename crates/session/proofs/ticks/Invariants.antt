-- `session::ticks` meets its contract: each tick is one more of the run, and keeps the one condition; the registers stand outside.
use Prim.Native.Nat.{◌-◌}
use mathlib.Core.Path.{◌≡◌}
use Rattle.registers.specs.File.{file_with}
use Rattle.generator.specs.Sound.{Sound}
use Rattle.calls.specs.Calls.{ran_of}
use Rattle.calls.specs.Runs.{machine_of}
use Rattle.calls.specs.declared.Ran.{Ran}
use Rattle.session.specs.Shows.{ticks_shown}
use Rattle.session.proofs.Showing.{shown}
use Rattle.session.proofs.ticks.Given as goal

abbrev pub invariant-loop-ticks : goal.invariant-loop-ticks
invariant-loop-ticks g l =
    (file_with l.n l.tables ≡ l.before.machine.regs)
    × (◌≡◌ {A = Ran} (record { done = l.ticks; refusal = 0; machine = machine_of l.before.machine.regs l.generator }) (ran_of l.memory (machine_of l.before.machine.regs l.initial.generator) l.ticks))
    × (Sound l.before.machine.regs l.generator)
    × (ticks_shown l.before.machine.regs l.memory l.generator (shown l.page l.out) (l.count - l.ticks) ≡ ticks_shown l.before.machine.regs l.memory l.initial.generator (shown l.initial.page l.initial.out) l.count)
