-- `control::address_increment` meets its contract: an entry of the table of the format.
use mathlib.Core.Path.{sym, ◌∙◌}
use Rattle.control.specs.Control.{increment}
use Rattle.control.proofs.address_increment.Goals as goal

pub returns-then-interlaced : goal.returns-then-interlaced
unfolding increment
returns-then-interlaced c = record { increment = simp (sym c.is_interlaced-interlaced.ensures.bit ∙ c.if-interlaced.true) (rw c.increment_code-code.ensures.code) }

pub returns : goal.returns
unfolding increment
returns c = record { increment = simp (sym c.is_interlaced-interlaced.ensures.bit ∙ c.if-interlaced.false) (rw c.increment_code-code.ensures.code) }
