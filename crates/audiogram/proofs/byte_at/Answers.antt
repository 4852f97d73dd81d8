-- `audiogram::byte_at` meets its contract. Assumes nothing.
use Rattle.audiogram.proofs.Cases.{byte_some, byte_none}
use Rattle.audiogram.proofs.byte_at.Goals as goal

pub returns-in-Some : goal.returns-in-Some
returns-in-Some c = record { byte = byte_some _ _ _ _ _ _ c.in-Some.ensures.first c.four_from.ensures.byte }

pub returns-in-None : goal.returns-in-None
returns-in-None c = record { byte = byte_none _ _ _ _ c.in-None.ensures.first }
