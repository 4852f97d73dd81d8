-- The whole picture is the machine's own ticks, and keeps the one condition. Assumes nothing.
use Prim.Native.Nat.{ℕ, zero, suc}
use mathlib.Core.List.{List}
use mathlib.Core.Path.{◌≡◌, refl, ap}
use borrow.Author.Tests.{eq-eqb}
use Rattle.screen.specs.Totals.{frame_ticks}
use Rattle.generator.specs.Rows.{screen}
use Rattle.generator.specs.Tick.{after}
use Rattle.machine.specs.Rules.{advanced}
use Rattle.machine.specs.declared.Machine.{Machine}
use Rattle.machine.specs.Conditions.{SoundMachine}
use Rattle.picture.specs.Picture.{picture_refusal, drawn_of}
use Rattle.picture.specs.Machines.{ticked, pictured}
use Rattle.picture.proofs.Laws.{drawn_sound}

-- the machine's ticks are the generator's
pub ticked_generator : (m : Machine) (memory : List ℕ) (n : ℕ) → ticked m memory n ≡ record { regs = m.regs; generator = after m.regs memory m.generator n }
unfolding ticked after advanced
ticked_generator m memory zero = refl
ticked_generator m memory (suc n) = ap (λ (k : Machine). (advanced k memory).machine) (ticked_generator m memory n)

-- a picture that is not refused leaves the machine where the frame's ticks leave it
pub pictured_ticks : (m : Machine) (memory : List ℕ) (size : ℕ) → (pictured m memory size).refusal ≡ 0 → (pictured m memory size).machine ≡ ticked m memory (frame_ticks (screen m.regs))
unfolding pictured drawn_of
pictured_ticks m memory size e =
    rw (ticked_generator m memory (frame_ticks (screen m.regs))) (simp (eq-eqb (picture_refusal m.regs memory m.generator size) 0 e))

pub picture_sound : (m : Machine) (memory : List ℕ) (size : ℕ) → SoundMachine m → SoundMachine (pictured m memory size).machine
unfolding pictured
picture_sound m memory size z = drawn_sound m.regs memory m.generator z size
