-- `questions::show_bytes` meets its contract.
use mathlib.Core.Path.{ap, sym, ◌∙◌}
use Rattle.questions.specs.Answers.{Shown}
use Rattle.questions.proofs.Shown.{bytes_brief, bytes_long}
use borrow.Author.Rules.{rules}
use Rattle.questions.proofs.show_bytes.Goals as goal

pub returns-then-is_brief : goal.returns-then-is_brief
returns-then-is_brief g c =
    let a = c.args in
    let e = bytes_brief a.p a.out.now a.refusal a.bytes.now (sym c.is_brief.ensures.brief ∙ c.if-is_brief.true) in
    let q = c.verdict-page.ensures in
    record { room = search rules; page = q.page ∙ ap (λ (s : Shown). s.page) (sym e); bytes = q.bytes ∙ ap (λ (s : Shown). s.bytes) (sym e) }

pub returns : goal.returns
returns g c =
    let a = c.args in
    let v = c.verdict-page.ensures in
    let e = bytes_long a.p a.out.now a.refusal a.bytes.now _ _ v.page v.bytes (sym c.is_brief.ensures.brief ∙ c.if-is_brief.false) in
    let q = c.rows.ensures in
    record { room = search rules; page = q.page ∙ ap (λ (s : Shown). s.page) (sym e); bytes = q.bytes ∙ ap (λ (s : Shown). s.bytes) (sym e) }
