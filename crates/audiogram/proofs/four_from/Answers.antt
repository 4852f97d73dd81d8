-- `audiogram::four_from` meets its contract. Assumes nothing.
use Rattle.audiogram.proofs.Cases.{four_made}
use Rattle.audiogram.proofs.four_from.Goals as goal

pub returns : goal.returns
returns c = record { byte = four_made _ _ _ _ _ _ _ _ _ _ c.is_near.ensures.test c.is_near-2.ensures.test c.entry_near-first.ensures.entry c.entry_near-second.ensures.entry c.entry_near-third.ensures.entry c.entry_near-fourth.ensures.entry }
