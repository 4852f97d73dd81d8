-- `words::word_after` meets its contract: a word stands between the blanks' end and its own.
use Rattle.std.proofs.lemmas.Grind.{common_steps}
use Rattle.words.proofs.Parting.{front_is}
use native.Mathlib.Omega.{arith}
use Rattle.words.proofs.word_after.Goals as goal

pub returns-clause-bytes : goal.returns-clause-bytes
returns-clause-bytes c =
    let to = c.run_end-to.ensures in
    let word = front_is _ _ _ to.within.0 to.within.1 to.left in
    grind (arith, common_steps)
