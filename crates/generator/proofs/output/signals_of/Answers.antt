-- `generator::output::signals_of` meets its contract: each signal by its own call, joined by one law.
use Rattle.registers.specs.File.{bare}
use Rattle.generator.proofs.Puts.{signals_by}
use Rattle.generator.proofs.output.signals_of.Goals as goal

pub returns : goal.returns
returns c = record { signals = signals_by (bare c.args.n) c.args.g c.args.t c.requires _ _ _ c.is_transferring.ensures.bit c.choose.ensures.chosen }
