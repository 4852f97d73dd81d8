-- `report::phrases::put_address` meets its contract.
use Rattle.room.proofs.Laying.{put_joined, put_one}
use Rattle.report.proofs.phrases.put_address.Goals as goal

pub returns : goal.returns
returns c =
    let p = c.put-named.ensures in
    let q = c.put_either.ensures in
    let puts = put_joined (put_one _ _ _ _ _ p.place p.bytes) (put_one _ _ _ _ _ q.place q.bytes) in
    let e = c.hex_text-text.ensures.text in
    record { place = rw (← e) puts.place; bytes = rw (← e) puts.bytes }
