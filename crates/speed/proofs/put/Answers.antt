-- `speed::put` meets its contract: its six stores are those of `sets`. Assumes nothing.
use native.Mathlib.Numerals.{add-one, add-two, add-three, add-four, add_five}
use native.Mathlib.Omega.{arith}
use lib.ListN.{length-set}
use Rattle.speed.specs.Ticks.{words_of}
use Rattle.speed.proofs.put.Goals as goal

pub returns : goal.returns
unfolding words_of
returns c = record { stored = rw (c.levels_of-levels.ensures.levels, add-one, add-two, add-three, add-four, add_five) }

pub bounds-out-k-2 : goal.bounds-out-k-2
bounds-out-k-2 c = simp length-set (omega arith)

pub bounds-out-k-3 : goal.bounds-out-k-3
bounds-out-k-3 c = simp length-set (omega arith)

pub bounds-out-k-4 : goal.bounds-out-k-4
bounds-out-k-4 c = simp length-set (omega arith)

pub bounds-out-k-5 : goal.bounds-out-k-5
bounds-out-k-5 c = simp length-set (omega arith)

pub bounds-out-k-6 : goal.bounds-out-k-6
bounds-out-k-6 c = simp length-set (omega arith)
