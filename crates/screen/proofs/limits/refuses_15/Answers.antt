-- `screen::limits::refuses_15` meets its contract. The remainder is safe because a shift period is never 0.
use native.Mathlib.Omega.{arith}
use Rattle.control.proofs.Laws.{shift_period_positive}
use Rattle.screen.proofs.limits.refuses_15.Goals as goal

pub nonzero_rem-result : goal.nonzero_rem-result
nonzero_rem-result c = omega (arith, shift_period_positive c.args.control)

pub returns : goal.returns
returns c = record { refusal = rw c.shift_period-period.ensures.period }
