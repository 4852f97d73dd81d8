-- `waveform::bit_wires::level_text` meets its contract, high and low.
use Rattle.waveform.proofs.bit_wires.level_text.Goals as goal

pub returns-then-high : goal.returns-then-high
returns-then-high c = record { text = rw c.if-high.true }

pub returns-else-high : goal.returns-else-high
returns-else-high c = record { text = rw c.if-high.false }
