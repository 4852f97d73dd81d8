-- `calls::write` meets its contract: a write keeps the one condition.
use mathlib.Core.Path.{sym, subst}
use Rattle.machine.specs.declared.Written.{Written}
use Rattle.machine.specs.Conditions.{SoundMachine}
use Rattle.machine.proofs.Soundness.{write_sound}
use Rattle.calls.proofs.write.Goals as goal

pub returns-clause-sound : goal.returns-clause-sound
returns-clause-sound c = subst (λ (w : Written). SoundMachine w.machine) (sym c.write.ensures.written) (write_sound _ _ _ c.requires)
