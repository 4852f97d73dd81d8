-- `control::divisor_power` meets its contract: the rules of its two tables.
use native.Mathlib.Omega.{arith}
use mathlib.Core.Path.{sym, ◌∙◌}
use Rattle.control.specs.Control.{increment_code}
use Rattle.control.proofs.Laws.{increment_power_rule, offset_power_rule, divisor_interlaced, divisor_plain}
use Rattle.control.proofs.divisor_power.Goals as goal

pub returns-then-interlaced : goal.returns-then-interlaced
returns-then-interlaced c =
    let code = c.before.before in
    let q = offset_power_rule (increment_code code.args.control) (omega arith) in
    rw code.increment_code-code.ensures.code (record { power = q.0 ∙ sym (divisor_interlaced code.args.control (sym c.is_interlaced-interlaced.ensures.bit ∙ c.if-interlaced.true)); bound = q.1 })

pub returns : goal.returns
returns c =
    let code = c.before.before in
    let q = increment_power_rule (increment_code code.args.control) (omega arith) in
    rw code.increment_code-code.ensures.code (record { power = q.0 ∙ sym (divisor_plain code.args.control (sym c.is_interlaced-interlaced.ensures.bit ∙ c.if-interlaced.false)); bound = q.1 })
