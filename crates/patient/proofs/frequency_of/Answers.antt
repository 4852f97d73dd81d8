-- `patient::frequency_of` meets its contract. Assumes nothing.
use Rattle.std.proofs.Common.{rules, tests}
use Rattle.std.specs.Prelude.{◌==◌}
use Rattle.std.proofs.lemmas.Iterator.{YieldsList-from_slice}
use Rattle.std.proofs.lemmas.Iterator.Search.{position_from_yields_List}
use Rattle.patient.specs.declared.TheConstants.{FREQUENCIES}
use Rattle.patient.proofs.frequency_of.Goals as goal

pub returns-in-Ok-clause-place : goal.returns-in-Ok-clause-place
returns-in-Ok-clause-place c = rw c.in-Ok.is (position_from_yields_List (λ f. f == c.in-Ok.hertz) _ _ _ c.position.ensures.ran (YieldsList-from_slice FREQUENCIES cc) (λ x b q k. search (rules, tests)))
