-- `session::do_script` is safe, ends and keeps the one condition: each turn leaves fewer.
use Rattle.generator.specs.Sound.{Sound}
use Rattle.session.proofs.do_script.Given as goal

abbrev pub invariant-loop-reader : goal.invariant-loop-reader
invariant-loop-reader g l = Sound l.desk.done.machine.regs l.desk.done.machine.generator

abbrev pub decreases-loop-reader : goal.decreases-loop-reader
decreases-loop-reader g l = l.reader.turns
