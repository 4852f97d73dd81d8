-- `questions::rows` meets its contract: each turn puts one line of those that are left.
use mathlib.Core.Path.{refl, ap, sym, ◌∙◌}
use Rattle.std.specs.Slice.Iter.{chunks_size, chunks_rest}
use Rattle.questions.specs.Answers.{Shown, rows_shown}
use Rattle.questions.proofs.Shown.{rows_again, rows_all}
use borrow.Author.Rules.{rules}
use Rattle.questions.proofs.rows.Goals as goal

pub loop-row-init : goal.loop-row-init
loop-row-init g c =
    let e = c.into_iter-row-iterator.ensures.into_iter_gives in
    (ap chunks_size e ∙ c.chunks-row-items.ensures.size, refl, ap (λ s. rows_shown c.args.p c.args.out.now (chunks_rest s)) e ∙ ap (rows_shown c.args.p c.args.out.now) c.chunks-row-items.ensures.rest)

pub loop-row-preserved : goal.loop-row-preserved
loop-row-preserved g c =
    let l = c.loop-row in
    let steps = c.in-Some.ensures.steps in
    let q = c.put_row-end.ensures in
    let again = rows_again l.page l.out (chunks_rest l.row-iterator) _ _ steps.1.0 (rw l.invariant.0 at steps.1.1) steps.1.2 _ _ _ _ c.space-page.ensures.page q.place q.bytes c.turn-page.ensures.page in
    (steps.0 ∙ l.invariant.0, search rules, again ∙ l.invariant.2)

pub returns : goal.returns
returns g c =
    let l = c.loop-row in
    let e = sym (rows_all l.page l.out (chunks_rest l.row-iterator) c.in-None.ensures.steps.1.0) ∙ l.invariant.2 in
    record { page = ap (λ (s : Shown). s.page) e; bytes = ap (λ (s : Shown). s.bytes) e }
