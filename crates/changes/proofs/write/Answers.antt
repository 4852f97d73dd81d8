-- `changes::write` meets its contract: the machine's own write.
use Rattle.changes.proofs.Laws.{write_done_lem}
use Rattle.changes.proofs.write.Goals as goal

pub returns : goal.returns
returns c = record { done = write_done_lem _ _ _ _ _ c.write-w.ensures.written; sound = c.write-w.ensures.sound }
