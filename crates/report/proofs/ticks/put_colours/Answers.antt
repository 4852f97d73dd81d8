-- `report::ticks::put_colours` meets its contract: after four pixels, the line's end.
use Rattle.std.proofs.Common.{rules, ◌≡◌}
use Rattle.room.specs.Room.{texts_of}
use Rattle.room.proofs.Laying.{put_joined, put_one}
use Rattle.report.proofs.ticks.put_colours.Goals as goal

pub returns : goal.returns
unfolding texts_of
returns c =
    let e : c.loop-dot.dot-index ≡ 4 = search rules in
    let q = c.put.ensures in
    let puts = put_joined (rw e at c.loop-dot.invariant) (put_one _ _ _ _ _ q.place q.bytes) in
    record { place = puts.place; bytes = puts.bytes }
