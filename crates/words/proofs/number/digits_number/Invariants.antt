-- `words::number::digits_number` meets its contract: the digits that are left come to the same number.
use Prim.Native.Nat.{◌≤◌}
use mathlib.Core.Path.{◌≡◌}
use lib.ListN.{drop}
use Rattle.words.specs.Numbers.{value_from, largest}
use Rattle.words.proofs.number.digits_number.Given as goal

abbrev pub invariant-loop-byte : goal.invariant-loop-byte
invariant-loop-byte l = (l.value ≤ largest) × (value_from l.hexadecimal l.value (drop l.byte-index l.text) ≡ value_from l.hexadecimal 0 l.text)
