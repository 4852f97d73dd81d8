-- `report::tick` meets its contract.
use native.Mathlib.Omega.{arith}
use Rattle.room.proofs.Laying.{none_put}
use Rattle.report.proofs.Cases.{step_line, step_wave, step_none}
use Rattle.report.specs.Pages.{counted}
use mathlib.Core.Path.{ap, ◌∙◌}
use Rattle.report.proofs.tick.Goals as goal

pub returns-in-0 : goal.returns-in-0
returns-in-0 c =
    let a = c.args in
    let e = step_line a.p a.s c.in-0.is in
    let q = c.put_tick-end.ensures in
    record { page = c.count.ensures.page ∙ ap (λ n. counted a.p n a.s) (rw e q.place); bytes = rw e q.bytes }

pub returns-in-1 : goal.returns-in-1
returns-in-1 c =
    let a = c.args in
    let e = step_wave a.p a.s (λ h. omega (arith, h, c.in-1.is)) c.in-1.is in
    let q = c.put_tick-end-in-1.ensures in
    record { page = c.count-in-1.ensures.page ∙ ap (λ n. counted a.p n a.s) (rw e q.place); bytes = rw e q.bytes }

pub returns-in_default : goal.returns-in_default
returns-in_default c =
    let a = c.args in
    let e = step_none a.p a.s (λ h. omega (arith, h, c.in_default)) (λ h. omega (arith, h, c.in_default)) in
    let q = none_put a.out.now a.p.waiting in
    record { page = c.count-in_default.ensures.page ∙ ap (λ n. counted a.p n a.s) (rw e q.0); bytes = rw e q.1 }
