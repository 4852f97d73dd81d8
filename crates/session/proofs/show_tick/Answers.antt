-- `session::show_tick` meets its contract.
use Rattle.session.proofs.Showing.{leaves, tick_good, tick_refused}
use Rattle.session.proofs.show_tick.Goals as goal

pub returns-then-refusal-eq0 : goal.returns-then-refusal-eq0
returns-then-refusal-eq0 g c =
    let a = c.args in
    let rest_of_it = leaves _ _ (tick_good a.p a.out.now a.refusal a.s _ c.space-page.ensures.page c.if-refusal-eq0.true) _ _ (c.tick.ensures.page, c.tick.ensures.bytes) in
    record { page = rest_of_it.0; bytes = rest_of_it.1 }

pub returns : goal.returns
returns g c =
    let a = c.args in
    let rest_of_it = leaves _ _ (tick_refused a.p a.out.now a.refusal a.s _ c.space-page.ensures.page c.if-refusal-eq0.false) _ _ (c.refuse.ensures.page, c.refuse.ensures.bytes) in
    record { page = rest_of_it.0; bytes = rest_of_it.1 }
