-- `questions::read` meets its contract.
use mathlib.Core.Path.{ap}
use Rattle.room.proofs.Laying.{put_joined, put_one}
use Rattle.questions.proofs.Cases.{read_shown}
use Rattle.questions.proofs.read.Goals as goal

pub returns : goal.returns
returns c =
    let a = c.args in
    let e = c.read-answer.ensures.answered in
    let p = c.put_hex-value.ensures in
    let q = c.put-end.ensures in
    let puts = put_joined (put_one _ _ _ _ _ p.place p.bytes) (put_one _ _ _ _ _ q.place q.bytes) in
    let shown = read_shown a.m a.address _ e in
    record { refusal = ap (λ x. x.refusal) e; place = rw shown puts.place; bytes = rw shown puts.bytes }
