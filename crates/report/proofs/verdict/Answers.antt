-- `report::verdict` meets its contract.
use Rattle.room.proofs.Laying.{put_one}
use Rattle.room.proofs.Laying.{none_put}
use Rattle.report.proofs.Cases.{verdict_refused, verdict_good, verdict_none}
use Rattle.report.specs.Pages.{turned}
use mathlib.Core.Path.{ap, ◌∙◌}
use Rattle.report.proofs.verdict.Goals as goal

pub returns-then-refusal-ne0 : goal.returns-then-refusal-ne0
returns-then-refusal-ne0 c =
    let a = c.args in
    let e = verdict_refused a.p.form a.p.lines a.refusal c.if-refusal-ne0.true in
    let q = c.refuse.ensures in
    record { page = rw e q.page; bytes = rw e q.bytes }

pub returns-then-p-eq-ANSWERS : goal.returns-then-p-eq-ANSWERS
returns-then-p-eq-ANSWERS c =
    let a = c.args in
    let e = verdict_good a.p.form a.p.lines a.refusal c.if-refusal-ne0.false c.if-p-eq-ANSWERS.true in
    let q = c.put-end.ensures in
    let puts = put_one _ _ _ _ _ q.place q.bytes in
    record { page = c.turn.ensures.page ∙ ap (turned a.p) (rw e puts.place); bytes = rw e puts.bytes }

pub returns : goal.returns
returns c =
    let a = c.args in
    let e = verdict_none a.p.form a.p.lines a.refusal c.if-refusal-ne0.false c.if-p-eq-ANSWERS.false in
    let q = none_put a.out.now a.p.waiting in
    record { page = c.turn-2.ensures.page ∙ ap (turned a.p) (rw e q.0); bytes = rw e q.1 }
