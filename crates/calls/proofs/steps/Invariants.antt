-- `calls::steps` meets its contract: each tick is one more of the run, and keeps the one condition.
use Prim.Native.Nat.{◌-◌, ◌≤◌}
use mathlib.Core.Path.{◌≡◌}
use Rattle.registers.specs.File.{file_with}
use Rattle.generator.specs.Sound.{Sound}
use Rattle.calls.specs.Calls.{ran_of}
use Rattle.calls.specs.Runs.{machine_of}
use Rattle.calls.specs.declared.Ran.{Ran}
use Rattle.calls.proofs.steps.Given as goal

abbrev pub invariant-loop-done : goal.invariant-loop-done
invariant-loop-done l =
    (l.done ≤ l.count)
    × (◌≡◌ {A = Ran} (record { done = l.done; refusal = 0; machine = machine_of (file_with l.n l.fn.tables) l.now }) (ran_of l.memory (machine_of (file_with l.n l.fn.tables) l.initial.now) l.done))
    × Sound (file_with l.n l.fn.tables) l.now

abbrev pub decreases-loop-done : goal.decreases-loop-done
decreases-loop-done l = l.count - l.done
