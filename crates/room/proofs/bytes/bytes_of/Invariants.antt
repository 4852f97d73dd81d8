-- `room::bytes::bytes_of` meets its contract: one number more at each turn.
use Prim.Native.Nat.{ℕ, ◌+◌, ◌%◌, ◌<◌}
use mathlib.Core.Path.{◌≡◌}
use lib.ListN.{get_or}
use Rattle.room.proofs.bytes.bytes_of.Given as goal

abbrev pub invariant-loop-k : goal.invariant-loop-k
invariant-loop-k l = (j : ℕ) → j < l.k → get_or l.byte-items j 0 ≡ get_or l.values (l.from + j) 0 % 256
