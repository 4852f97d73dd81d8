-- `calls::begin` meets its contract: the beginning keeps the one condition.
use Rattle.std.proofs.Common.{subst, sym}
use Rattle.machine.specs.Conditions.{SoundMachine}
use Rattle.machine.proofs.Soundness.{beginning_sound}
use Rattle.calls.proofs.begin.Goals as goal

pub returns-clause-sound : goal.returns-clause-sound
returns-clause-sound c = subst SoundMachine (sym c.beginning.ensures.machine) beginning_sound
