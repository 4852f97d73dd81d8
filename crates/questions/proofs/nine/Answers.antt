-- `questions::nine` meets its contract.
use mathlib.Core.Path.{ap}
use Rattle.room.proofs.Laying.{put_joined, put_one, put_some}
use Rattle.questions.proofs.Cases.{nine_shown}
use Rattle.questions.proofs.nine.Goals as goal

pub returns : goal.returns
returns c =
    let a = c.args in
    let e = c.nine-sums.ensures.nine in
    let p = c.put_hex-low.ensures in
    let q = c.put_colour-middle.ensures in
    let r = c.put_colour-high.ensures in
    let s = c.put-end.ensures in
    let puts = put_joined (put_one _ _ _ _ _ p.place p.bytes) (put_joined (put_some _ _ _ _ _ q.place q.bytes) (put_joined (put_some _ _ _ _ _ r.place r.bytes) (put_one _ _ _ _ _ s.place s.bytes))) in
    let shown = nine_shown a.m _ e in
    record { refusal = ap (λ x. x.refusal) e; place = rw shown puts.place; bytes = rw shown puts.bytes }
