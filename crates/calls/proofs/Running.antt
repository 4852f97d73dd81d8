-- A run tick by tick. Assumes nothing.
use Prim.Native.Nat.{ℕ, zero, suc, ◌+◌, ◌-◌, ◌<◌}
use mathlib.Core.List.{List}
use mathlib.Core.Path.{◌≡◌, refl, sym, ap, ◌∙◌}
use native.Mathlib.Nat.{add-zero, add-suc}
use native.Mathlib.Numerals.{add-one}
use native.Mathlib.Omega.{arith}
use borrow.Author.Tests.{eq-eqb, ne_eqb}
use Rattle.registers.specs.declared.Registers.{Registers}
use Rattle.generator.specs.Tick.{tick_of}
use Rattle.generator.specs.declared.Generator.{Generator}
use Rattle.generator.specs.declared.Ticked.{Ticked}
use Rattle.machine.specs.Rules.{advanced}
use Rattle.machine.specs.declared.Machine.{Machine}
use Rattle.calls.specs.Calls.{ran_on, ran_of}
use Rattle.calls.specs.Runs.{machine_of}
use Rattle.calls.specs.declared.Ran.{Ran}

module _ (memory : List ℕ) (m : Machine) where
  pub ran_first : ◌≡◌ {A = Ran} (record { done = 0; refusal = 0; machine = m }) (ran_of memory m 0)
  unfolding ran_of
  ran_first = refl

  pub one_more : (n : ℕ) → ran_of memory m (suc n) ≡ ran_on memory (ran_of memory m n)
  unfolding ran_of
  one_more n = refl

  pub still : (r : Ran) → (r.refusal ≡ 0 → ⊥) → ran_on memory r ≡ r
  unfolding ran_on
  still r h = simp (ne_eqb r.refusal 0 h)

  -- past a refused tick nothing is done
  pub stays : (k j : ℕ) → ((ran_of memory m k).refusal ≡ 0 → ⊥) → ran_of memory m (k + j) ≡ ran_of memory m k
  stays k zero h = ap (ran_of memory m) (add-zero k)
  stays k (suc j) h =
      ap (ran_of memory m) (add-suc k j) ∙ one_more (k + j) ∙ ap (ran_on memory) (stays k j h) ∙ still (ran_of memory m k) h

  -- one tick more, of a run whose registers are these
  module _ (r : Registers) (done : ℕ) (now : Generator) (t : Ticked) (e : ◌≡◌ {A = Ran} (record { done = done; refusal = 0; machine = machine_of r now }) (ran_of memory m done)) (et : t ≡ tick_of r memory now) where
    pub ran_next : t.refusal ≡ 0 → ◌≡◌ {A = Ran} (record { done = done + 1; refusal = 0; machine = machine_of r t.next }) (ran_of memory m (done + 1))
    unfolding ran_of ran_on advanced
    ran_next z = rw (add-one done, ← e, ← et, eq-eqb t.refusal 0 z, z) (rw (add-one done))

    refused_once : (t.refusal ≡ 0 → ⊥) → ◌≡◌ {A = Ran} (record { done = done; refusal = t.refusal; machine = machine_of r t.next }) (ran_of memory m (suc done))
    unfolding ran_of ran_on advanced
    refused_once z = rw (← e, ← et, ne_eqb t.refusal 0 z)

    pub ran_refused : (t.refusal ≡ 0 → ⊥) → (count : ℕ) → done < count → ◌≡◌ {A = Ran} (record { done = done; refusal = t.refusal; machine = machine_of r t.next }) (ran_of memory m count)
    ran_refused z count h =
        let once = refused_once z in
        let n : count ≡ suc done + (count - suc done) = omega arith in
        once ∙ sym (ap (ran_of memory m) n ∙ stays (suc done) (count - suc done) (λ k. z (ap (λ (x : Ran). x.refusal) once ∙ k)))
