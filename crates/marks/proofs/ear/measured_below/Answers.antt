-- `marks::ear::measured_below` meets its contract. Assumes nothing.
use Rattle.std.proofs.Common.{rules}
use Rattle.std.proofs.iter.runs.Sources.{ranges}
use Rattle.marks.proofs.ear.Cases.{last_found}
use Rattle.marks.proofs.ear.measured_below.Goals as goal

pub returns : goal.returns
returns c = record { last = last_found _ _ _ (search (rules, ranges)); below = search (rules, ranges) }
