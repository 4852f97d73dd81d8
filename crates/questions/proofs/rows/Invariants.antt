-- `questions::rows` meets its contract: each turn puts one line of those that are left.
use mathlib.Core.Path.{◌≡◌}
use lib.ListN.{length}
use Rattle.std.specs.Slice.Iter.{chunks_rest, chunks_size}
use Rattle.questions.specs.Answers.{rows_shown}
use Rattle.questions.proofs.rows.Given as goal

abbrev pub invariant-loop-row : goal.invariant-loop-row
invariant-loop-row g l =
    (chunks_size l.row-iterator ≡ 32)
    × (length l.out ≡ length l.initial.out)
    × (rows_shown l.page l.out (chunks_rest l.row-iterator) ≡ rows_shown l.initial.page l.initial.out l.fn.bytes)
