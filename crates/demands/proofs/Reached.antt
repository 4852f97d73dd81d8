-- What the calls give from the beginning keeps the one condition. Assumes nothing.
use mathlib.Core.List.{List, [], ◌∷◌}
use mathlib.Core.Path.{◌≡◌}
use lib.ListN.{length}
use Rattle.machine.specs.Rules.{beginning, advanced}
use Rattle.machine.specs.Conditions.{SoundMachine}
use Rattle.machine.specs.declared.Machine.{Machine}
use Rattle.machine.proofs.Soundness.{beginning_sound, advance_sound, calls_sound}
use Rattle.picture.proofs.Machines.{picture_sound}
use Rattle.demands.specs.Asked.{Asked, of, lent, picture, after_asked, after_every}

-- every call keeps the one condition, and so does any list of them
pub asked_sound : (m : Machine) (call : Asked) → SoundMachine m → SoundMachine (after_asked m call)
unfolding advanced
asked_sound m (of call) z = calls_sound m (call ∷ []) z
asked_sound m (lent memory) z = advance_sound m memory z
asked_sound m (picture memory buffer) z = picture_sound m memory (length buffer) z

every_sound : (m : Machine) (calls : List Asked) → SoundMachine m → SoundMachine (after_every m calls)
every_sound m [] z = z
every_sound m (call ∷ rest) z = every_sound (after_asked m call) rest (asked_sound m call z)

pub reached_sound : (calls : List Asked) (m : Machine) → m ≡ after_every beginning calls → SoundMachine m
reached_sound calls m e = rw e (every_sound beginning calls beginning_sound)
