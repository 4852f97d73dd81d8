-- `units::screen_of` meets its contract: fourteen registers, each in its unit.
use mathlib.Core.Path.{refl}
use Rattle.units.specs.Parameters.{screen_of}
use Rattle.units.proofs.screen_of.Goals as goal

pub returns : goal.returns
unfolding screen_of
returns c = record { screen = refl }
