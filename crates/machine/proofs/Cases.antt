-- What a refused write and an accepted read come to. Assumes nothing.
use Prim.Native.Nat.{ℕ}
use mathlib.Core.Path.{◌≡◌, ◌∙◌}
use borrow.Author.Tests.{eq-eqb, ne_eqb}
use Rattle.registers.specs.Map.{place_of}
use Rattle.registers.specs.declared.map.Place.{Place}
use Rattle.machine.specs.Access.{write_refusal}
use Rattle.machine.specs.Rules.{written, read_refusal, value_at, answered}
use Rattle.machine.specs.declared.Machine.{Machine}
use Rattle.machine.specs.declared.Written.{Written}
use Rattle.machine.specs.declared.Answered.{Answered}

module _ (m : Machine) (address value : ℕ) (p : Place) (n : ℕ) (ep : p ≡ place_of address) (en : n ≡ write_refusal m.regs p value) where
  refusal_is : n ≡ write_refusal m.regs (place_of address) value
  refusal_is = en ∙ rw ep

  pub write_refused : (n ≡ 0 → ⊥) → ◌≡◌ {A = Written} (record { refusal = n; machine = m }) (written m address value)
  unfolding written
  write_refused z = rw (← refusal_is) (simp (ne_eqb n 0 z))

module _ (m : Machine) (address : ℕ) (p : Place) (n : ℕ) (ep : p ≡ place_of address) (en : n ≡ read_refusal m p) where
  read_refusal_is : n ≡ read_refusal m (place_of address)
  read_refusal_is = en ∙ rw ep

  pub read_accepted : n ≡ 0 → (v : ℕ) → v ≡ value_at m p → ◌≡◌ {A = Answered} (record { refusal = n; value = v; machine = m }) (answered m address)
  unfolding answered
  read_accepted z v e = rw (← read_refusal_is, e, ep) (simp (eq-eqb n 0 z))
