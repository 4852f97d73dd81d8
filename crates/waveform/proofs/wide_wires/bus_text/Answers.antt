-- `waveform::wide_wires::bus_text` meets its contract: one bit more at each turn.
use mathlib.Core.Path.{◌≡◌}
use native.Mathlib.Omega.{arith}
use Rattle.room.proofs.Laying.{laid_none}
use Rattle.waveform.proofs.wide_wires.Cases.{bit_laid, bus_laid}
use Rattle.waveform.proofs.wide_wires.bus_text.Goals as goal

pub loop-k-init : goal.loop-k-init
loop-k-init c = laid_none _ _ _

pub loop-k-preserved : goal.loop-k-preserved
loop-k-preserved c = bit_laid _ _ _ _ c.loop-k.invariant c.bit.ensures.digit

pub returns : goal.returns
returns c =
    let e : c.loop-k.k ≡ 24 = omega arith in
    record { text = rw (c.loop-k.invariant, e) (bus_laid _ _) }
