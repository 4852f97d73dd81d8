-- `session::write_woven` meets its contract: one row more over the others at each turn.
use mathlib.Core.Path.{◌≡◌, ap, ◌∙◌}
use native.Mathlib.Omega.{arith}
use Rattle.session.specs.Shows.{woven_shown}
use Rattle.session.proofs.Showing.{woven_none, woven_next}
use Rattle.session.proofs.write_woven.Goals as goal

pub loop-row-init : goal.loop-row-init
loop-row-init g c = woven_none _ _ _

pub loop-row-preserved : goal.loop-row-preserved
loop-row-preserved g c =
    let l = c.loop-row in
    woven_next _ _ _ _ _ l.row l.invariant c.put_row-count.ensures.bytes

pub returns : goal.returns
returns g c =
    let l = c.loop-row in
    let a = c.args in
    let all : l.row ≡ a.p.height = omega arith in
    record { bytes = l.invariant ∙ ap (woven_shown _ _ _) all }
