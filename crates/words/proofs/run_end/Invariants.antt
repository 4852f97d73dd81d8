-- `words::run_end` meets its contract: past each byte of the run, the same is left past it.
use mathlib.Core.Path.{◌≡◌}
use lib.ListN.{drop}
use Rattle.words.specs.Words.{past_run}
use Rattle.words.proofs.run_end.Given as goal

abbrev pub invariant-loop-i : goal.invariant-loop-i
invariant-loop-i l = past_run l.blanks (drop l.i l.line) ≡ past_run l.blanks (drop l.at l.line)
