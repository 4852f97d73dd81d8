-- A run as the code goes about it, with the registers outside: some ticks one by one, then whole frames at once. r: the registers, g: the
-- generator that it begins with. Assumes nothing.
use Rattle.std.specs.Prelude.{ℕ, ◌+◌, ◌≤◌, ◌<◌, Bool, true, cond, List, ◌≡◌, eqb}
use Rattle.control.specs.Control.{running}
use Rattle.units.specs.declared.Screen.{Screen}
use Rattle.registers.specs.declared.Registers.{Registers}
use Rattle.generator.specs.Dark.{field_tick, ticks_to_vdisplay, moved_to}
use Rattle.generator.specs.Sound.{Sound}
use Rattle.generator.specs.declared.Generator.{Generator}
use Rattle.generator.specs.declared.Went.{Went}
use Rattle.machine.specs.declared.Machine.{Machine}
use Rattle.frame.specs.Frame.{AtStart}
use Rattle.calls.specs.Calls.{ran_of}
use Rattle.calls.specs.declared.Passed.{Passed}
use Rattle.calls.specs.declared.Ran.{Ran}

abbrev pub machine_of : Registers → Generator → Machine
machine_of r g = record { regs = r; generator = g }

-- what has been done, with the registers put back
abbrev pub ran_in : Registers → Went → Ran
ran_in r w = record { done = w.done; refusal = w.refusal; machine = machine_of r w.next }

-- ticks before VDisplay passed over: one or more, no more than are due, and none past VDisplay's first
pub record Passes (s : Screen) (g : Generator) (due : ℕ) (p : Passed) : Type 0 where
  pub some : 0 < p.ticks
  pub most : p.ticks ≤ due
  pub inside : field_tick s g + p.ticks ≤ ticks_to_vdisplay s
  pub moved : p.next ≡ moved_to s g (field_tick s g + p.ticks)

-- up to so many ticks: as many as were done, or with a refused one all of them; fewer, unrefused, only to a frame's start
pub record Part (r : Registers) (memory : List ℕ) (g : Generator) (count : ℕ) (halts : Bool) (w : Went) : Type 0 where
  pub ran : ran_in r w ≡ ran_of memory (machine_of r g) (cond (eqb w.refusal 0) w.done count)
  pub most : w.done ≤ count
  pub early : w.refusal ≡ 0 → w.done < count → (halts ≡ true) × AtStart w.next
  pub sound : Sound r w.next

-- exactly so many ticks
pub record Exactly (r : Registers) (memory : List ℕ) (g : Generator) (count : ℕ) (w : Went) : Type 0 where
  pub ran : ran_in r w ≡ ran_of memory (machine_of r g) count
  pub most : w.done ≤ count
  pub sound : Sound r w.next

-- some ticks are due only at a frame's start
pub record Starts (r : Registers) (g : Generator) (count : ℕ) : Type 0 where
  pub runs : running r.control ≡ true
  pub start : 0 < count → AtStart g
  pub sound : Sound r g
