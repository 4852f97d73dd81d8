-- `picture::plan::is_beyond` meets its contract. The invariant: the places of the first v visible ticks are looked through. Assumes nothing.
use Prim.Native.Nat.{◌*◌, ◌-◌, ◌≤◌}
use mathlib.Core.Path.{◌≡◌}
use Rattle.base.specs.Count.{some}
use Rattle.control.specs.Control.{pixel_bits}
use Rattle.memory.specs.Memory.{ends_beyond}
use Rattle.picture.specs.Plan.{place_in}
use Rattle.picture.proofs.plan.is_beyond.Given as goal

abbrev pub invariant-loop-v : goal.invariant-loop-v
invariant-loop-v l = (l.v ≤ l.plan.visible) × (l.beyond ≡ some (λ i. ends_beyond (pixel_bits l.plan.control) l.memory (place_in l.plan i)) (4 * l.v))

abbrev pub decreases-loop-v : goal.decreases-loop-v
decreases-loop-v l = l.plan.visible - l.v
