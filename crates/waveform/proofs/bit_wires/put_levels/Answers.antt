-- `waveform::bit_wires::put_levels` meets its contract: one wire more at each turn.
use Rattle.waveform.proofs.WireByWire.{left_next, left_none}
use Rattle.waveform.proofs.bit_wires.put_levels.Goals as goal

pub loop-mark-preserved : goal.loop-mark-preserved
loop-mark-preserved c = left_next _ _ _ _ _ _ _ _ _ _ c.loop-mark.invariant (rw c.wires-mark-items.ensures.wires c.loop-mark-test.true) c.put_level-end.ensures.place c.put_level-end.ensures.bytes

pub returns : goal.returns
returns c =
    let puts = rw c.wires-mark-items.ensures.wires at (left_none _ _ _ _ _ _ _ c.loop-mark.invariant (rw c.wires-mark-items.ensures.wires c.loop-mark-test.false)) in
    record { place = puts.0; bytes = puts.1 }
