-- `words::count_words` meets its contract: the words counted and those that begin in what is left make all.
use Prim.Native.Nat.{◌+◌, ◌≤◌}
use mathlib.Core.Path.{◌≡◌}
use mathlib.Core.Bool.{false}
use lib.ListN.{drop}
use Rattle.words.specs.Words.{begins}
use Rattle.words.proofs.count_words.Given as goal

abbrev pub invariant-loop-byte : goal.invariant-loop-byte
invariant-loop-byte l = (l.count ≤ l.byte-index) × (l.count + begins l.inside (drop l.byte-index l.line) ≡ begins false l.line)
