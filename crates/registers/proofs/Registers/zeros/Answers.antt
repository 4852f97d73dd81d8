-- `registers::Registers::zeros` meets its contract, field by field. Assumes nothing.
use mathlib.Core.Path.{refl}
use Rattle.registers.specs.File.{zeros}
use Rattle.registers.proofs.Registers.zeros.Goals as goal

pub returns : goal.returns
unfolding zeros
returns c = record { file = refl }
