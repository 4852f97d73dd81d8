-- `room::bytes::bytes_of` meets its contract: one number more at each turn.
use mathlib.Core.Path.{refl}
use lib.ListN.{replicate}
use Rattle.room.proofs.Laying.{laid_whole}
use native.Mathlib.Omega.{arith}
use Rattle.room.proofs.bytes.bytes_of.Goals as goal

pub returns : goal.returns
returns c = record { bytes = laid_whole _ (replicate 80 0) _ 80 c.loop-k-test.array_long refl (λ k h. c.loop-k.invariant k (omega arith)) }
