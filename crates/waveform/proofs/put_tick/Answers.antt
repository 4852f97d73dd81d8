-- `waveform::put_tick` meets its contract: a tick that is written, and one that changes nothing.
use Rattle.std.proofs.Common.{rules, ◌∙◌}
use Rattle.room.proofs.Laying.{none_put}
use Rattle.waveform.proofs.Cases.{tick_written, tick_still}
use Rattle.waveform.proofs.Changed.{some_wire}
use Rattle.waveform.proofs.put_tick.Goals as goal

pub returns-then-first-ne : goal.returns-then-first-ne
returns-then-first-ne c =
    let a = c.args in
    let p = c.put_wires.ensures in
    let e = tick_written a.first a.k a.b a.s _ (c.ne.ensures ∙ some_wire a.b a.s (search rules) (search rules)) c.if-first-ne.true in
    record { place = rw e p.place; bytes = rw e p.bytes }

pub returns : goal.returns
returns c =
    let a = c.args in
    let e = tick_still a.first a.k a.b a.s _ (c.ne.ensures ∙ some_wire a.b a.s (search rules) (search rules)) c.if-first-ne.false in
    let q = none_put a.room.now a.at in
    record { place = rw e q.0; bytes = rw e q.1 }
