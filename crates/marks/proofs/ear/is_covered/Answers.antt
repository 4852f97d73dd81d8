-- `marks::ear::is_covered` meets its contract. Assumes nothing.
use Rattle.std.proofs.Common.{rules, tests}
use Rattle.marks.proofs.ear.Cases.{covered_made}
use Rattle.marks.proofs.ear.is_covered.Goals as goal

pub returns : goal.returns
returns c = record { test = covered_made _ _ _ _ c.measured_below.ensures.last _ _ _ _ _ c.point_of-to.ensures.point c.is_mark-marked.ensures.test (search (rules, tests)) c.is_measured.ensures.test }
