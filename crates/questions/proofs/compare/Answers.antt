-- `questions::compare` meets its contract.
use mathlib.Core.Path.{ap}
use Rattle.room.proofs.Laying.{put_one}
use Rattle.questions.specs.Questions.{compare_asked}
use Rattle.questions.proofs.Cases.{compare_shown}
use Rattle.questions.proofs.compare.Goals as goal

pub returns : goal.returns
unfolding compare_asked
returns c =
    let a = c.args in
    let e = c.comparison_of-comparison.ensures.comparison in
    let p = c.put_either-end.ensures in
    let puts = put_one _ _ _ _ _ p.place p.bytes in
    let shown = compare_shown a.c _ e in
    record { refusal = ap (λ x. x.refusal) e; place = rw shown puts.place; bytes = rw shown puts.bytes }
