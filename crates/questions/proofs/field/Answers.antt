-- `questions::field` meets its contract.
use mathlib.Core.Path.{ap}
use Rattle.questions.specs.Questions.{field_asked}
use Rattle.questions.proofs.Cases.{field_shown}
use Rattle.questions.proofs.field.Goals as goal

pub returns : goal.returns
unfolding field_asked
returns c =
    let a = c.args in
    let e = c.field_of-answer.ensures.answer in
    let p = c.put_count-end.ensures in
    let shown = field_shown a.c _ e in
    record { refusal = ap (λ x. x.refusal) e; place = rw shown p.place; bytes = rw shown p.bytes }
