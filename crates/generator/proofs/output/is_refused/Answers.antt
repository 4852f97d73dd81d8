-- `generator::output::is_refused` meets its contract: of four places in a row, the last ends beyond the memory where any does.
use Rattle.registers.specs.File.{bare}
use Rattle.generator.proofs.Puts.{refuse_by}
use Rattle.generator.proofs.output.is_refused.Goals as goal

pub returns : goal.returns
returns c = record { refusal = refuse_by (bare c.args.n) c.args.memory.now c.args.g c.args.t c.requires _ _ c.ends_beyond-far.ensures.refusal c.is_transferring-on.ensures.bit }
