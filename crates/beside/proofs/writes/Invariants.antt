-- `beside::writes` keeps the one condition, as each write does.
use Rattle.generator.specs.Sound.{Sound}
use Rattle.beside.proofs.writes.Given as goal

abbrev pub invariant-loop-k : goal.invariant-loop-k
invariant-loop-k l = Sound l.m.regs l.m.generator
