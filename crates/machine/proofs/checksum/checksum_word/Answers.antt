-- `machine::checksum::checksum_word` meets its contract: the table holds the place values of a sum's bytes.
use Rattle.std.proofs.Common.{◌∙◌}
use Rattle.machine.proofs.checksum.Cases.{word_within, word_past}
use Rattle.machine.proofs.checksum.checksum_word.Goals as goal

pub returns-in_default : goal.returns-in_default
returns-in_default c =
    let past = c.in_default.ensures.lookup in
    record { word = word_past _ _ past.3 }

pub returns : goal.returns
returns c =
    let found = c.in-Some.ensures.lookup in
    record { word = c.join.ensures.word ∙ rw (found.3.1 0) (word_within _ _ found.3.0) }
