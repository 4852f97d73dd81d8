-- `words::slash::slash_at` meets its contract: the first `/` from the place reached on is the first of all.
use Prim.Native.Nat.{◌-◌}
use mathlib.Core.Path.{◌≡◌}
use lib.ListN.{length}
use Rattle.words.specs.Slash.{slash_from, slash_at}
use Rattle.words.proofs.slash.slash_at.Given as goal

abbrev pub invariant-loop-i : goal.invariant-loop-i
invariant-loop-i l = slash_from l.line l.i (length l.line - l.i) ≡ slash_at l.line
