-- `lines::Field::of` meets its contract, sum by sum.
use mathlib.Core.Path.{refl}
use Rattle.lines.specs.Lines.{line_from}
use Rattle.lines.proofs.Field.of.Goals as goal

pub invariant_of-result : goal.invariant_of-result
unfolding line_from
invariant_of-result c = record { narrow = c.screen_in-s.ensures.narrow; ends_are = refl; halves_are = refl; origin_is = rw (c.choose-origin.ensures.chosen, c.choose.ensures.chosen) }
