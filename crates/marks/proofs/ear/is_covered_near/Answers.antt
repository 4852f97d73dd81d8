-- `marks::ear::is_covered_near` meets its contract: what is not near is not covered. Assumes nothing.
use mathlib.Core.Path.{refl, sym, ◌∙◌}
use native.Mathlib.Omega.{arith}
use Rattle.marks.proofs.ear.Near.{far_uncovered}
use Rattle.marks.proofs.ear.is_covered_near.Goals as goal

pub returns-else-is_near_to : goal.returns-else-is_near_to
returns-else-is_near_to c =
    let a = c.args in
    let far = c.if-is_near_to.false in
    record { test = far ∙ sym (far_uncovered a.p a.p refl (omega arith) (omega arith) a.right a.levels.now a.k _ c.requires refl (sym c.is_near_to.ensures.test ∙ far)) }
