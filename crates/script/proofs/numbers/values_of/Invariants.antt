-- `script::numbers::values_of` meets its contract: the words from the place reached on are those from k on.
use Prim.Native.Nat.{ℕ, ◌+◌}
use mathlib.Core.Path.{◌≡◌}
use lib.ListN.{drop}
use Rattle.words.specs.Words.{word_at}
use Rattle.script.specs.Arguments.{fault_up_to, values_up_to}
use Rattle.script.proofs.numbers.values_of.Given as goal

abbrev pub invariant-loop-k : goal.invariant-loop-k
invariant-loop-k l = (l.fault ≡ fault_up_to l.plain l.rest l.k) × ((l.values ≡ values_up_to l.plain l.rest l.k) × ((j : ℕ) → word_at j (drop l.at l.rest) ≡ word_at (l.k + j) l.rest))
