-- `picture::plan::draw_rows` meets its contract. The invariant: the pixels of the first v visible ticks are painted. Assumes nothing.
use Prim.Native.Nat.{◌*◌, ◌-◌, ◌≤◌}
use Rattle.base.specs.Count.{run}
use Rattle.picture.specs.Span.{Painted, through_by}
use Rattle.picture.specs.Plan.{colour_in}
use Rattle.picture.proofs.plan.draw_rows.Given as goal

abbrev pub invariant-loop-v : goal.invariant-loop-v
invariant-loop-v l = (l.v ≤ l.plan.visible) × Painted l.initial.buffer (12 * l.plan.before) l.initial.t (run (colour_in l.plan (through_by l.brush)) 0 (4 * l.v)) l.buffer l.t

abbrev pub decreases-loop-v : goal.decreases-loop-v
decreases-loop-v l = l.plan.visible - l.v
