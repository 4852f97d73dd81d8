-- Ticks before VDisplay, passed over in a run, are that many of its ticks. Assumes nothing.
use Prim.Native.Nat.{ℕ, zero, suc, ◌+◌, ◌≤◌, ◌<◌}
use mathlib.Core.Bool.{Bool, true, false, cond}
use mathlib.Core.List.{List}
use mathlib.Core.Path.{◌≡◌, refl, sym, ap, subst, ◌∙◌}
use native.Mathlib.Nat.{add-zero}
use native.Mathlib.Omega.{arith}
use Rattle.units.specs.Parameters.{halves_to_vdisplay}
use Rattle.registers.specs.declared.Registers.{Registers}
use Rattle.generator.specs.Rows.{screen}
use Rattle.generator.specs.Tick.{tick_of}
use Rattle.generator.specs.Stand.{Runs}
use Rattle.generator.specs.Sound.{Sound}
use Rattle.generator.specs.Dark.{field_tick, ticks_to_vdisplay, moved_to}
use Rattle.generator.specs.declared.Generator.{Generator}
use Rattle.generator.proofs.Kept.{tick_sound}
use Rattle.generator.proofs.Dark.{moved_from, moved_taken, moved_next}
use Rattle.machine.specs.declared.Machine.{Machine}
use Rattle.calls.specs.Calls.{ran_of}
use Rattle.calls.specs.Runs.{machine_of, Passes}
use Rattle.calls.specs.declared.Passed.{Passed}
use Rattle.calls.specs.declared.Ran.{Ran}
use Rattle.calls.proofs.Running.{ran_next}

-- where some half line is before VDisplay the screen runs
pub dark_runs : (runs : Bool) (halves all half : ℕ) → halves ≡ cond runs all 0 → half < halves → (runs ≡ true) × (halves ≡ all)
dark_runs true halves all half e l = (refl, e)
dark_runs false halves all half e l = absurd (omega arith)

module _ (memory : List ℕ) (m : Machine) (r : Registers) (now : Generator) (z : Sound r now) (k : Runs r now) (early : now.half.0 < halves_to_vdisplay (screen r))
    (done : ℕ) (e : ◌≡◌ {A = Ran} (record { done = done; refusal = 0; machine = machine_of r now }) (ran_of memory m done)) where
  -- j of them
  pub record Dark (j : ℕ) : Type 0 where
    pub ran : ◌≡◌ {A = Ran} (record { done = done + j; refusal = 0; machine = machine_of r (moved_to (screen r) now (field_tick (screen r) now + j)) }) (ran_of memory m (done + j))
    pub sound : Sound r (moved_to (screen r) now (field_tick (screen r) now + j))

  dark : (j : ℕ) → field_tick (screen r) now + j ≤ ticks_to_vdisplay (screen r) → Dark j
  dark zero l = record { ran = rw (add-zero, add-zero, ← (moved_from r now k early)) e; sound = rw (add-zero, ← (moved_from r now k early)) z }
  dark (suc j) l =
      let before = dark j (omega arith) in
      let n = field_tick (screen r) now + j in
      let inside : n < ticks_to_vdisplay (screen r) = omega arith in
      let number : field_tick (screen r) now + suc j ≡ n + 1 = omega arith in
      let count : done + suc j ≡ done + j + 1 = omega arith in
      let next : moved_to (screen r) now (field_tick (screen r) now + suc j) ≡ (tick_of r memory (moved_to (screen r) now n)).next = rw number (sym (moved_next r now k early memory n inside)) in
      record {
        ran =
            ap (λ (g : Generator). record { done = done + suc j; refusal = 0; machine = machine_of r g }) next
            ∙ rw count (ran_next memory m r (done + j) (moved_to (screen r) now n) (tick_of r memory (moved_to (screen r) now n)) before.ran refl (moved_taken r now k early memory n inside));
        sound = subst (Sound r) (sym next) (tick_sound r memory (moved_to (screen r) now n) before.sound);
      }

  -- as many as were passed over
  module _ (due : ℕ) (p : Passed) (h : Passes (screen r) now due p) where
    pub passed_ran : ◌≡◌ {A = Ran} (record { done = done + p.ticks; refusal = 0; machine = machine_of r p.next }) (ran_of memory m (done + p.ticks))
    passed_ran = rw h.moved (dark p.ticks h.inside).ran

    pub passed_sound : Sound r p.next
    passed_sound = rw h.moved (dark p.ticks h.inside).sound
