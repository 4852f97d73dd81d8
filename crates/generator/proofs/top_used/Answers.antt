-- `generator::top_used` meets its contract: what was written, or that much further on.
use mathlib.Core.Path.{◌∙◌}
use Rattle.generator.specs.Rows.{top_used}
use Rattle.generator.proofs.top_used.Goals as goal

pub returns-then-second : goal.returns-then-second
unfolding top_used
returns-then-second c = record { top = simp c.if-second.true (c.rolled_sum.ensures.rolled ∙ rw c.field_offset.ensures.offset) }

pub returns : goal.returns
unfolding top_used
returns c = record { top = simp c.if-second.false }
