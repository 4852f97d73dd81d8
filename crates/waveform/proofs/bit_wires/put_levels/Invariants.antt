-- `waveform::bit_wires::put_levels` meets its contract: one wire more at each turn.
use Rattle.waveform.specs.BitWires.{wire_change}
use Rattle.waveform.proofs.WireByWire.{Left}
use Rattle.waveform.proofs.bit_wires.put_levels.Given as goal

abbrev pub invariant-loop-mark : goal.invariant-loop-mark
invariant-loop-mark l = Left (wire_change l.all) l.mark-items l.fn.room l.fn.at l.mark-index l.room l.end
