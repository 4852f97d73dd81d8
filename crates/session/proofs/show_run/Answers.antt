-- `session::show_run` meets its contract.
use mathlib.Core.Path.{refl}
use Rattle.session.proofs.Showing.{leaves, run_good, run_refused}
use Rattle.session.proofs.show_run.Goals as goal

pub returns-then-refusal-eq0 : goal.returns-then-refusal-eq0
returns-then-refusal-eq0 c =
    let a = c.args in
    let q = c.put_count-end.ensures in
    let rest_of_it = leaves _ _ (run_good a.p a.out.now a.done a.refusal _ _ _ _ q.place c.choose-waiting.ensures.chosen c.turn-page.ensures.page q.bytes c.if-refusal-eq0.true) _ _ (refl, refl) in
    record { page = rest_of_it.0; bytes = rest_of_it.1 }

pub returns : goal.returns
returns c =
    let a = c.args in
    let q = c.put_count-end.ensures in
    let rest_of_it = leaves _ _ (run_refused a.p a.out.now a.done a.refusal _ _ _ _ q.place c.choose-waiting.ensures.chosen c.turn-page.ensures.page q.bytes c.if-refusal-eq0.false) _ _ (c.refuse.ensures.page, c.refuse.ensures.bytes) in
    record { page = rest_of_it.0; bytes = rest_of_it.1 }
