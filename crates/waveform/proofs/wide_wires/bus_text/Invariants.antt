-- `waveform::wide_wires::bus_text` meets its contract: one bit more at each turn.
use mathlib.Core.Path.{◌≡◌}
use Rattle.waveform.proofs.wide_wires.Cases.{bits_laid}
use Rattle.waveform.proofs.wide_wires.bus_text.Given as goal

abbrev pub invariant-loop-k : goal.invariant-loop-k
invariant-loop-k l = l.digit-items ≡ bits_laid l.value l.k
