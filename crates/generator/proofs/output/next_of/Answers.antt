-- `generator::output::next_of` meets its contract: each field by its own call.
use native.Mathlib.Omega.{arith}
use Rattle.registers.specs.File.{bare}
use Rattle.generator.proofs.Puts.{seen_in, next_by}
use Rattle.generator.proofs.output.next_of.Goals as goal

pub overflow_add-seen : goal.overflow_add-seen
overflow_add-seen c = omega (arith, seen_in _ _ c.requires.runs)

pub returns : goal.returns
returns c = record { next = next_by (bare c.args.n) c.args.g c.args.t c.requires.stands c.args.sums _ _ _ c.choose-more.ensures.chosen c.choose.ensures.chosen c.choose-2.ensures.chosen }
