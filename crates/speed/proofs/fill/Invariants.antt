-- `speed::fill` meets its contract: each tick is one more of those done, and keeps the one condition.
use Rattle.registers.specs.File.{file_with}
use Rattle.speed.proofs.Loop.{Going}
use Rattle.speed.proofs.fill.Given as goal

abbrev pub invariant-loop-done : goal.invariant-loop-done
invariant-loop-done l = Going (file_with l.n l.fn.tables) l.memory l.initial.now l.initial.out l.done l.k l.now l.out
