-- `report::notes::put_head` meets its contract.
use Rattle.room.proofs.Laying.{put_joined, put_one}
use Rattle.report.proofs.notes.put_head.Goals as goal

pub returns : goal.returns
returns c =
    let p = c.put_open-begun.ensures in
    let q = c.put_decimal-counted.ensures in
    let r = c.put_either.ensures in
    let puts = put_joined (put_one _ _ _ _ _ p.place p.bytes) (put_joined (put_one _ _ _ _ _ q.place q.bytes) (put_one _ _ _ _ _ r.place r.bytes)) in
    record { place = puts.place; bytes = puts.bytes }
