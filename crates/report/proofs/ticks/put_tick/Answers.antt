-- `report::ticks::put_tick` meets its contract.
use Rattle.report.specs.TickLines.{tick_line_texts}
use Rattle.room.proofs.Laying.{put_joined, put_some}
use Rattle.report.proofs.ticks.put_tick.Goals as goal

pub returns : goal.returns
unfolding tick_line_texts
returns c =
    let p = c.put_level-sync.ensures in
    let q = c.put_level-vsync.ensures in
    let r = c.put_level-inactive.ensures in
    let s = c.put_level-blank.ensures in
    let t = c.put_level-request.ensures in
    let u = c.put_address-address.ensures in
    let v = c.put_colours.ensures in
    let puts = put_joined (put_some _ _ _ _ _ p.place p.bytes) (put_joined (put_some _ _ _ _ _ q.place q.bytes) (put_joined (put_some _ _ _ _ _ r.place r.bytes) (put_joined (put_some _ _ _ _ _ s.place s.bytes) (put_joined (put_some _ _ _ _ _ t.place t.bytes) (put_joined (put_some _ _ _ _ _ u.place u.bytes) (put_some _ _ _ _ _ v.place v.bytes)))))) in
    record { place = puts.place; bytes = puts.bytes }
