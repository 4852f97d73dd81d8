-- The whole picture as docs/SPEED.md measures it: registers from numbers, and an answer of four numbers. Assumes nothing.
use Rattle.std.specs.Prelude.{ℕ, List}
use Rattle.registers.specs.declared.Registers.{Registers}
use Rattle.picture.specs.declared.Drawn.{Drawn}
use Rattle.speed.specs.declared.Shown.{Shown}

-- the register file with these numbers
abbrev pub file : List ℕ → ℕ → ℕ → ℕ → List ℕ → ℕ → List ℕ → List ℕ → Registers
file params mask control top colours position palette store =
    record {
      params = params;
      mask = mask;
      control = control;
      top = top;
      colours = colours;
      position = position;
      palette = palette;
      store = store;
    }

-- a picture's refusal, and the sums after it
abbrev pub shown : Drawn → Shown
shown d =
    record { refusal = d.refusal; red = d.next.sums.red; green = d.next.sums.green; blue = d.next.sums.blue }
