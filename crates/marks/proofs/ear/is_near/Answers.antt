-- `marks::ear::is_near` meets its contract. Assumes nothing.
use Rattle.std.proofs.Common.{rules, tests}
use Rattle.marks.specs.Ear.{last_before}
use Rattle.marks.specs.Near.{near_at}
use Rattle.marks.proofs.Any.{any_below}
use Rattle.marks.proofs.ear.Cases.{near_whole}
use Rattle.marks.proofs.ear.is_near.Goals as goal

pub returns : goal.returns
returns c =
    let l = c.args.levels.now in
    let found = any_below (λ k. near_at l c.args.p (last_before l k) k) _ _ _ _ c.any-found.ensures.ran (λ x b q k. search (rules, tests)) in
    record { test = near_whole l c.args.p _ _ found (rw (c.is_close.ensures.test, c.key_of-2.ensures.point, c.key_of.ensures.point)) }
