-- `questions::answer` meets its contract.
use mathlib.Core.Path.{ap, sym, ◌∙◌}
use Rattle.report.specs.Pages.{turned}
use Rattle.questions.specs.Answers.{Shown}
use Rattle.questions.proofs.Shown.{answer_store, answer_brief, answer_long}
use borrow.Author.Rules.{rules}
use Rattle.questions.proofs.answer.Goals as goal

pub returns-then-c-eq-STORE : goal.returns-then-c-eq-STORE
returns-then-c-eq-STORE g c =
    let a = c.args in
    let e = answer_store a.p a.c a.m a.out.now c.if-c-eq-STORE.true in
    let q = c.store.ensures in
    record { room = search rules; page = q.page ∙ ap (λ (s : Shown). s.page) (sym e); bytes = q.bytes ∙ ap (λ (s : Shown). s.bytes) (sym e) }

pub returns-then-is_brief : goal.returns-then-is_brief
returns-then-is_brief g c =
    let a = c.args in
    let f = c.find-answer.ensures in
    let e = answer_brief a.p a.c a.m a.out.now c.if-c-eq-STORE.false _ f.refusal _ f.bytes (sym c.is_brief.ensures.brief ∙ c.if-is_brief.true) in
    let q = c.verdict.ensures in
    record { room = search rules; page = q.page ∙ ap (λ (s : Shown). s.page) (sym e); bytes = q.bytes ∙ ap (λ (s : Shown). s.bytes) (sym e) }

pub returns : goal.returns
returns g c =
    let a = c.args in
    let f = c.find-answer.ensures in
    let e = answer_long a.p a.c a.m a.out.now c.if-c-eq-STORE.false _ f.refusal (sym c.is_brief.ensures.brief ∙ c.if-is_brief.false) in
    record { room = search rules; page = (c.turn.ensures.page ∙ ap (turned a.p) f.place) ∙ ap (λ (s : Shown). s.page) (sym e); bytes = f.bytes ∙ ap (λ (s : Shown). s.bytes) (sym e) }
