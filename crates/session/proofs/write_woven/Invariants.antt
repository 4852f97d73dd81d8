-- `session::write_woven` meets its contract: one row more over the others at each turn.
use mathlib.Core.Path.{◌≡◌}
use Rattle.session.specs.Shows.{woven_shown}
use Rattle.session.proofs.write_woven.Given as goal

abbrev pub invariant-loop-row : goal.invariant-loop-row
invariant-loop-row g l = l.out ≡ woven_shown l.w l.picture l.initial.out l.row
