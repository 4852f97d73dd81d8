-- `questions::sheet` meets its contract.
use mathlib.Core.Path.{ap}
use Rattle.room.proofs.Laying.{put_joined, put_one, put_some}
use Rattle.questions.specs.Questions.{sheet_asked}
use Rattle.questions.proofs.Cases.{sheet_shown}
use Rattle.questions.proofs.sheet.Goals as goal

pub returns : goal.returns
unfolding sheet_asked
returns c =
    let a = c.args in
    let e = c.sheet_of-sheet.ensures.sheet in
    let p = c.put-ok.ensures in
    let q = c.put_values-end.ensures in
    let puts = put_joined (put_one _ _ _ _ _ p.place p.bytes) (put_some _ _ _ _ _ q.place q.bytes) in
    let shown = sheet_shown a.c _ e in
    record { refusal = ap (λ x. x.refusal) e; place = rw shown puts.place; bytes = rw shown puts.bytes }
