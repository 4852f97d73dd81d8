-- `marks::ear::shows` meets its contract. Assumes nothing.
use mathlib.Core.Path.{◌∙◌, ap}
use Rattle.std.proofs.Common.{rules, tests}
use Rattle.marks.specs.Ear.{last_before, covered_at}
use Rattle.marks.specs.Marks.{mark}
use Rattle.marks.specs.declared.points.Point.{Point}
use Rattle.marks.proofs.Any.{any_below}
use Rattle.marks.proofs.ear.Cases.{ear_whole}
use Rattle.marks.proofs.ear.shows.Goals as goal

pub returns : goal.returns
returns c =
    let a = c.args in
    let l = a.levels.now in
    let covered = any_below (λ k. covered_at a.right l a.p (last_before l k) k) _ _ _ _ c.any-covered.ensures.ran (λ x b q k. search (rules, tests)) in
    let key = c.is_mark.ensures.test ∙ ap (λ (q : Point). mark a.right a.p q) c.key_of.ensures.point in
    record { test = ear_whole a.right l a.p _ _ _ _ covered c.measured_below.ensures.last c.is_some-measured.ensures key }
