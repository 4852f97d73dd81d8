-- `form::shows` meets its contract. Assumes nothing.
use Rattle.std.proofs.Common.{rules, tests}
use Rattle.form.specs.Form.{labelled}
use Rattle.form.proofs.Cases.{form_made}
use Rattle.marks.proofs.Any.{any_from}
use Rattle.form.proofs.shows.Goals as goal

pub returns : goal.returns
returns c =
    let p = c.args.p in
    let asked = c.labels_at in
    let drawn = any_from (λ k. labelled p k) asked.result.start asked.result.end _ _ _ c.any.ensures.ran (λ x b q k. search (rules, tests)) in
    record { test = form_made p _ _ _ _ asked.ensures.bound.0 asked.ensures.bound.1 asked.ensures.before asked.ensures.after c.is_grid.ensures.test drawn }
