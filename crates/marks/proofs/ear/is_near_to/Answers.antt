-- `marks::ear::is_near_to` meets its contract. Assumes nothing.
use Rattle.marks.proofs.ear.Cases.{near_made}
use Rattle.marks.proofs.ear.is_near_to.Goals as goal

pub returns : goal.returns
returns c = record { test = near_made _ _ _ _ c.measured_below.ensures.last _ _ _ _ _ c.unwrap_or.ensures c.point_of-from.ensures.point c.point_of.ensures.point c.is_measured.ensures.test c.is_close.ensures.test }
