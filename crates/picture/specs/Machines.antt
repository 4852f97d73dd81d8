-- A whole picture of the machine, and its ticks. m: the machine before it. Assumes nothing.
use Rattle.std.specs.Prelude.{ℕ, zero, suc, List}
use Rattle.machine.specs.Rules.{advanced}
use Rattle.machine.specs.declared.Machine.{Machine}
use Rattle.picture.specs.Picture.{drawn_of}
use Rattle.picture.specs.declared.whole.Pictured.{Pictured}

-- the machine after n ticks with one fixed picture memory and no register touched
unfoldable pub ticked : Machine → List ℕ → ℕ → Machine
ticked m memory zero = m
ticked m memory (suc n) = (advanced (ticked m memory n) memory).machine

-- the registers stay; the generator is the picture's
unfoldable pub pictured : Machine → List ℕ → ℕ → Pictured
pictured m memory size =
    record {
      refusal = (drawn_of m.regs memory m.generator size).refusal;
      machine = record { regs = m.regs; generator = (drawn_of m.regs memory m.generator size).next };
    }
