-- What the owner's demands 1 and 2 come to: refusals change nothing, screens start exactly when allowed, writes read back.
-- Assumes nothing.
use Prim.Native.Nat.{ℕ}
use mathlib.Core.Bool.{Bool, true, false, not, cond, ◌&&◌}
use mathlib.Core.List.{List}
use mathlib.Core.Path.{◌≡◌, refl, sym, ◌∙◌}
use lib.Dec.{eqb}
use borrow.Author.Tests.{ne_eqb, eq-eqb, eqb-true}
use Rattle.control.specs.Control.{running, outside}
use Rattle.registers.specs.Map.{place_of, is_reserved}
use Rattle.registers.specs.File.{value_in}
use Rattle.registers.specs.declared.map.Place.TheVariants.{Control}
use Rattle.registers.specs.declared.Registers.{Registers}
use Rattle.registers.proofs.map.Laws.{address_single}
use Rattle.registers.proofs.Laws.{kept, back, control_stored}
use Rattle.generator.specs.Counters.{fresh}
use Rattle.generator.specs.Tick.{tick_refusal, tick_of}
use Rattle.signals.specs.Signals.{silent}
use Rattle.generator.specs.declared.Generator.{Generator}
use Rattle.machine.specs.Access.{changes_format, start_limit, write_refusal}
use Rattle.machine.specs.Rules.{stored, written, read_refusal, value_at, answered, advanced}
use Rattle.machine.specs.Calls.{Call, write, read, tick, after_call, Spares}
use Rattle.machine.specs.declared.Machine.{Machine}
use Rattle.machine.proofs.access.Passed.{Passed, passed, accepted}
use Rattle.machine.specs.Conditions.{SoundMachine, Startable}
use Rattle.base.proofs.Bools.{neither_holds}

-- ---- a refused call leaves the machine as it was, and answers 0 for all else

pub write_refused_same : (m : Machine) (address value : ℕ) → ((written m address value).refusal ≡ 0 → ⊥) → (written m address value).machine ≡ m
unfolding written
write_refused_same m address value n = simp (ne_eqb (write_refusal m.regs (place_of address) value) 0 n)

pub read_refused_zero : (m : Machine) (address : ℕ) → ((answered m address).refusal ≡ 0 → ⊥) → (answered m address).value ≡ 0
unfolding answered
read_refused_zero m address n = simp (ne_eqb (read_refusal m (place_of address)) 0 n)

pub read_same : (m : Machine) (address : ℕ) → (answered m address).machine ≡ m
unfolding answered
read_same m address = refl

-- a tick's number is its refusal, in every case
pub tick_number : (r : Registers) (memory : List ℕ) (g : Generator) → (tick_of r memory g).refusal ≡ tick_refusal r memory g
unfolding tick_of
tick_number r memory g = go (eqb (tick_refusal r memory g) 0) refl
  where
    go : (b : Bool) → eqb (tick_refusal r memory g) 0 ≡ b → (tick_of r memory g).refusal ≡ tick_refusal r memory g
    go true e = simp e (sym (eqb-true _ 0 e))
    go false e = simp e

pub tick_refused_same : (m : Machine) (memory : List ℕ) → ((advanced m memory).refusal ≡ 0 → ⊥) → ((advanced m memory).machine ≡ m) × ((advanced m memory).signals ≡ silent)
unfolding advanced tick_of
tick_refused_same m memory n =
    let e = ne_eqb (tick_refusal m.regs memory m.generator) 0 (λ z. n (tick_number m.regs memory m.generator ∙ z)) in
    (simp e, simp e)

-- ---- a screen starts exactly when the limits hold

pub starts_if : (m : Machine) (value : ℕ) → running value ≡ true → Startable m value → (written m 0x060 value).refusal ≡ 0
unfolding written place_of start_limit
starts_if m value on s =
    accepted m.regs Control value (record { opened = refl; narrow = s.narrow; idle = refl; known = simp (s.in_build, s.keeps_format); limits = simp on s.limits })

pub starts_only_if : (m : Machine) (value : ℕ) → running value ≡ true → (written m 0x060 value).refusal ≡ 0 → Startable m value
unfolding written place_of start_limit
starts_only_if m value on e =
    let p = passed m.regs Control value e in
    let known = neither_holds (outside value) (changes_format m.regs value) p.known in
    record { narrow = p.narrow; in_build = known.0; keeps_format = known.1; limits = simp on at p.limits }

-- going from 0 to 1 starts the generator afresh; a write that leaves it running does not restart it
pub started_fresh : (m : Machine) (value : ℕ) → running value ≡ true → running m.regs.control ≡ false → (written m 0x060 value).refusal ≡ 0 → (written m 0x060 value).machine.generator ≡ fresh
unfolding written place_of stored
started_fresh m value on off e = simp (eq-eqb _ 0 e, on, off)

pub running_kept : (m : Machine) (value : ℕ) → running m.regs.control ≡ true → (written m 0x060 value).machine.generator ≡ m.generator
unfolding written place_of stored
running_kept m value on = go (eqb (write_refusal m.regs Control value) 0)
  where
    and_off : (a : Bool) → (a && not true) ≡ false
    and_off true = refl
    and_off false = refl

    go : (b : Bool) → (cond b (stored m Control value) m).generator ≡ m.generator
    go true = simp (on, and_off)
    go false = refl

-- going to 0 stops it: the generator stays as it was, and the next tick gets 23
pub stops : (m : Machine) (value : ℕ) (memory : List ℕ) → running value ≡ false → (written m 0x060 value).refusal ≡ 0 → ((written m 0x060 value).machine.generator ≡ m.generator) × ((advanced (written m 0x060 value).machine memory).refusal ≡ 23)
unfolding written place_of stored advanced tick_of tick_refusal
stops m value memory off e = (
  simp (eq-eqb _ 0 e, off),
  simp (eq-eqb _ 0 e, off, control_stored m.regs Control value refl),
)

-- ---- an accepted write reads back as written

spared_write : (a : ℕ) (m : Machine) (address value : ℕ) → Spares a m (write address value) → is_reserved (place_of a) ≡ false → value_in (written m address value).machine.regs (place_of a) ≡ value_in m.regs (place_of a)
unfolding written stored
spared_write a m address value s mapped = go (eqb (write_refusal m.regs (place_of address) value) 0) refl
  where
    go : (b : Bool) → eqb (write_refusal m.regs (place_of address) value) 0 ≡ b → value_in (cond b (stored m (place_of address) value) m).regs (place_of a) ≡ value_in m.regs (place_of a)
    go true e = kept m.regs (place_of address) value (place_of a) (λ same. s (eqb-true _ 0 e) (sym (address_single a address same mapped)))
    go false e = refl

pub spared : (a : ℕ) (m : Machine) (call : Call) → Spares a m call → is_reserved (place_of a) ≡ false → value_in (after_call m call).regs (place_of a) ≡ value_in m.regs (place_of a)
unfolding answered advanced
spared a m (write address value) s mapped = spared_write a m address value s mapped
spared a m (read address) s mapped = refl
spared a m (tick memory) s mapped = refl

-- an accepted write has passed, and its register stands in the file
write_passed : (m : Machine) (a v : ℕ) → (written m a v).refusal ≡ 0 → Passed m.regs (place_of a) v
unfolding written
write_passed m a v w = passed m.regs (place_of a) v w

write_stands : (m : Machine) (a v : ℕ) → SoundMachine m → (written m a v).refusal ≡ 0 → value_in (written m a v).machine.regs (place_of a) ≡ v
unfolding written stored
write_stands m a v z w =
    let q = passed m.regs (place_of a) v w in
    simp (eq-eqb (write_refusal m.regs (place_of a) v) 0 w)
    (back m.regs a v z.widths (record { narrow = q.narrow }) (neither_holds (is_reserved (place_of a)) _ q.opened).0 (neither_holds (is_reserved (place_of a)) _ q.opened).1)

pub write_mapped : (m : Machine) (a v : ℕ) → (written m a v).refusal ≡ 0 → is_reserved (place_of a) ≡ false
write_mapped m a v w = (neither_holds (is_reserved (place_of a)) _ (write_passed m a v w).opened).0

-- where the register still stands, an accepted read gives what was written
pub stands_back : (m : Machine) (a v : ℕ) → SoundMachine m → (written m a v).refusal ≡ 0 → (n : Machine) → value_in n.regs (place_of a) ≡ value_in (written m a v).machine.regs (place_of a) → (answered n a).refusal ≡ 0 → (answered n a).value ≡ v
unfolding answered value_at
stands_back m a v z w n same e =
    simp (eq-eqb (read_refusal n (place_of a)) 0 e, (neither_holds (is_reserved (place_of a)) _ (write_passed m a v w).opened).1)
    (same ∙ write_stands m a v z w)
