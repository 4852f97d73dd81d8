-- `sheet::read` meets its contract: by cases of the refusal. Assumes nothing.
use Rattle.sheet.proofs.Cases.{good, bad}
use Rattle.sheet.proofs.read.Goals as goal

pub returns-then-refusal-eq0 : goal.returns-then-refusal-eq0
returns-then-refusal-eq0 c = record { whole = good _ _ _ c.sheet_refusal-refusal.ensures.refusal c.if-refusal-eq0.true c.sheet_values-values.ensures.values }

pub returns-else-refusal-eq0 : goal.returns-else-refusal-eq0
returns-else-refusal-eq0 c = record { whole = bad _ _ c.sheet_refusal-refusal.ensures.refusal c.if-refusal-eq0.false }
