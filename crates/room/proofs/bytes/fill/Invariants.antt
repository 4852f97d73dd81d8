-- `room::bytes::fill` meets its contract: one byte more at each turn, its value kept exactly.
use Prim.Native.Nat.{ℕ, ◌+◌, ◌*◌, ◌%◌, ◌<◌}
use mathlib.Core.Path.{◌≡◌}
use lib.ListN.{get_or}
use Rattle.room.proofs.bytes.fill.Given as goal

abbrev pub invariant-loop-byte : goal.invariant-loop-byte
invariant-loop-byte l = (l.value ≡ (l.start + l.byte-index * l.step) % 256) × ((k : ℕ) → k < l.byte-index → get_or l.byte-items k 0 ≡ (l.start + k * l.step) % 256)
