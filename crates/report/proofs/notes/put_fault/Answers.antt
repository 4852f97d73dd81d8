-- `report::notes::put_fault` meets its contract.
use Rattle.report.specs.Notes.{fault_texts}
use Rattle.room.proofs.Laying.{put_joined, put_one, put_some}
use Rattle.report.proofs.notes.put_fault.Goals as goal

pub returns : goal.returns
unfolding fault_texts
returns c =
    let p = c.put_head-named.ensures in
    let q = c.put_reason-reason.ensures in
    let r = c.put_close.ensures in
    let puts = put_joined (put_some _ _ _ _ _ p.place p.bytes) (put_joined (put_one _ _ _ _ _ q.place q.bytes) (put_one _ _ _ _ _ r.place r.bytes)) in
    record { place = puts.place; bytes = puts.bytes }
