-- The checksum words on each way through the code: within the table of a byte's place values, and past it. Assumes nothing.
use Prim.Native.Nat.{ℕ, zero, suc, ◌*◌, ◌+◌, ◌/◌, ◌%◌, ◌^◌, ◌<◌, ◌≤◌}
use mathlib.Core.List.{List, [], ◌∷◌}
use mathlib.Core.Path.{◌≡◌, refl, sym, ◌∙◌}
use native.Mathlib.Nat.{zero-add}
use native.Mathlib.Omega.{arith}
use lib.Dec.{eqb, eqb→eq}
use lib.ListN.{get_or}
use Rattle.base.specs.Count.{run}
use Rattle.base.proofs.Table.{entry}
use Rattle.base.proofs.Run.{run_entry}
use Rattle.pixel.specs.declared.Sums.{Sums}
use Rattle.machine.specs.Words.{checksum_words}

-- the place values of a sum's bytes: one test over the table
abbrev pub bytes : List ℕ
bytes = 1 ∷ 0x100 ∷ 0x10000 ∷ []

pub byte_value : (k : ℕ) → k < 3 → get_or bytes k 0 ≡ 256 ^ k
byte_value k h = eqb→eq _ _ (entry (λ n value. eqb value (256 ^ n)) bytes tt k h)

pub word_within : (k : ℕ) (sums : Sums) → k < 3 → sums.red / get_or bytes k 0 % 0x100 * 0x10000 + sums.green / get_or bytes k 0 % 0x100 * 0x100 + sums.blue / get_or bytes k 0 % 0x100 ≡ get_or (checksum_words sums) k 0
unfolding checksum_words
word_within k sums h = rw (byte_value k h) (sym (run_entry _ 0 3 k 0 h ∙ simp (zero-add)))

pub word_past : (k : ℕ) (sums : Sums) → 3 ≤ k → 0 ≡ get_or (checksum_words sums) k 0
unfolding checksum_words run
word_past zero sums h = absurd (omega arith)
word_past (suc zero) sums h = absurd (omega arith)
word_past (suc (suc zero)) sums h = absurd (omega arith)
word_past (suc (suc (suc k))) sums h = refl
