-- `report::phrases::put_colour` meets its contract.
use Rattle.room.proofs.Laying.{put_joined, put_one}
use Rattle.report.proofs.phrases.put_colour.Goals as goal

pub returns : goal.returns
returns c =
    let p = c.put-parted.ensures in
    let q = c.put_hex.ensures in
    let puts = put_joined (put_one _ _ _ _ _ p.place p.bytes) (put_one _ _ _ _ _ q.place q.bytes) in
    record { place = puts.place; bytes = puts.bytes }
