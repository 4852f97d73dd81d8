-- `beside::run` is safe and ends: at most one of either count at each turn, and a tick keeps the one condition of both records.
use Prim.Native.Nat.{◌≤◌}
use Rattle.generator.specs.Sound.{Sound}
use Rattle.beside.proofs.run.Given as goal

abbrev pub invariant-loop : goal.invariant-loop
invariant-loop g l = record { accepted : l.accepted ≤ l.counter; unlike : l.unlike ≤ l.counter; lent : Sound l.r l.lent; kept : Sound l.r l.kept }
