-- `script::command::compare_of` meets its contract, with a `/` and without.
use mathlib.Core.Path.{sym}
use lib.Seq.{length-take-le}
use Rattle.script.proofs.command.Cases.{compare_parted, compare_whole}
use Rattle.script.proofs.command.compare_of.Goals as goal

pub slice_bounds-numbers_for-end : goal.slice_bounds-numbers_for-end
slice_bounds-numbers_for-end c = sym (length-take-le _ _ c.slash_at-slash.ensures.within)

pub returns-then-slash-rest : goal.returns-then-slash-rest
returns-then-slash-rest c = record { command = compare_parted _ _ c.slash_at-slash.ensures.place _ _ _ c.if-slash-rest.true c.numbers_for-left.ensures.numbers c.numbers_for-right.ensures.numbers c.choose-fault.ensures.chosen }

pub returns : goal.returns
returns c = record { command = compare_whole _ _ c.slash_at-slash.ensures.place _ c.if-slash-rest.false c.faulty.ensures.command }
