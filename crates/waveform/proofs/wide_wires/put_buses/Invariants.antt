-- `waveform::wide_wires::put_buses` meets its contract: one wire more at each turn.
use Rattle.waveform.specs.WideWires.{wire_change}
use Rattle.waveform.proofs.WireByWire.{Left}
use Rattle.waveform.proofs.wide_wires.put_buses.Given as goal

abbrev pub invariant-loop-mark : goal.invariant-loop-mark
invariant-loop-mark l = Left (wire_change l.all) l.mark-items l.fn.room l.fn.at l.mark-index l.room l.end
