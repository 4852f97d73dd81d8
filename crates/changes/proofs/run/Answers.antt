-- `changes::run` meets its contract: the machine's own ticks.
use Rattle.changes.proofs.Laws.{run_done_lem}
use Rattle.changes.proofs.run.Goals as goal

pub run-ran-requires : goal.run-ran-requires
run-ran-requires c = c.requires

pub returns : goal.returns
returns c =
    let r = c.run-ran.ensures in
    record { done = run_done_lem _ _ _ _ c.lent.ensures.bytes _ _ r.ran; sound = r.sound }
