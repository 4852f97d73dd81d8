-- `speed::fill` meets its contract: each tick is one more of those done, and keeps the one condition.
use mathlib.Core.Path.{◌≡◌, ◌∙◌}
use native.Mathlib.Omega.{arith}
use Rattle.speed.proofs.Loop.{room_left, going_first, going_next, filled_refused, filled_ended}
use Rattle.speed.proofs.fill.Goals as goal

pub loop-done-init : goal.loop-done-init
loop-done-init c = going_first _ _ _ _ c.requires

pub returns-then-refusal-ne0 : goal.returns-then-refusal-ne0
returns-then-refusal-ne0 c = record { filled = filled_refused _ _ _ _ _ _ _ _ c.loop-done.invariant _ c.tick_with-t.ensures.ticked c.if-refusal-ne0.true (rw c.ticks_in-most.ensures.ticks at c.loop-done-test.true) }

pub put-requires : goal.put-requires
put-requires c = room_left _ _ _ _ _ _ _ _ c.loop-done.invariant _ c.ticks_in-most.ensures.ticks c.loop-done-test.true

pub loop-done-preserved : goal.loop-done-preserved
loop-done-preserved c = going_next _ _ _ _ _ _ _ _ c.loop-done.invariant _ c.tick_with-t.ensures.ticked c.if-refusal-ne0.false _ c.put.ensures.stored

pub returns : goal.returns
returns c =
    let e : c.loop-done.done ≡ c.ticks_in-most.result = omega arith in
    record { filled = rw e at (filled_ended _ _ _ _ _ _ _ _ c.loop-done.invariant (e ∙ c.ticks_in-most.ensures.ticks)) }
