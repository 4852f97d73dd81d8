-- `screen::limits::limit` meets its contract. Where 10 does not hold, the counts that the later refusals add up fit 24 bits.
use mathlib.Core.Path.{sym, ◌∙◌}
use Rattle.screen.proofs.limits.Laws.{bounded, narrow}
use Rattle.screen.proofs.limits.limit.Goals as goal

pub later_limit-requires : goal.later_limit-requires
later_limit-requires c = narrow _ (bounded _ (sym c.refuses_10.ensures.refusal ∙ c.if-refuses_10.false))
