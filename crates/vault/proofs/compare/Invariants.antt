-- `vault::compare` meets its contract. The loop keeps: what was found, and what is still to be found, is the whole. Assumes nothing.
use mathlib.Core.Path.{◌≡◌}
use mathlib.Core.Bool.{◌&&◌}
use lib.ListN.{length}
use Rattle.vault.specs.Compare.{match}
use Rattle.vault.proofs.compare.Given as goal

abbrev pub invariant-loop-x : goal.invariant-loop-x
invariant-loop-x l = (length l.x-iterator.a.rest.now ≡ length l.x-iterator.b.rest.now) × ((l.equal && match l.x-iterator.a.rest.now l.x-iterator.b.rest.now) ≡ match l.a l.b)
