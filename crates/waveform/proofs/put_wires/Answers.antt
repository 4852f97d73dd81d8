-- `waveform::put_wires` meets its contract.
use Rattle.waveform.specs.Waveform.{wire_texts}
use Rattle.room.proofs.Laying.{put_joined, put_one, put_some}
use Rattle.waveform.proofs.put_wires.Goals as goal

pub returns : goal.returns
unfolding wire_texts
returns c =
    let p = c.put_count-time.ensures in
    let q = c.put_either-begun.ensures in
    let r = c.put_levels-levels.ensures in
    let s = c.put_buses-buses.ensures in
    let t = c.put_either.ensures in
    let puts = put_joined (put_some _ _ _ _ _ p.place p.bytes) (put_joined (put_one _ _ _ _ _ q.place q.bytes) (put_joined (put_some _ _ _ _ _ r.place r.bytes) (put_joined (put_some _ _ _ _ _ s.place s.bytes) (put_one _ _ _ _ _ t.place t.bytes)))) in
    record { place = puts.place; bytes = puts.bytes }
