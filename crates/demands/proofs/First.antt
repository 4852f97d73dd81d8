-- DEMAND 1 holds of every machine. Assumes nothing.
use Prim.Native.Nat.{ℕ}
use mathlib.Core.Bool.{Bool, true, false, not, cond, ◌&&◌}
use mathlib.Core.List.{List}
use mathlib.Core.Path.{◌≡◌, refl, ap, ◌∙◌}
use lib.ListN.{length}
use Rattle.control.specs.Control.{running}
use Rattle.screen.specs.Limits.{later_limit, limit_of}
use Rattle.registers.specs.Map.{place_of, is_control}
use Rattle.signals.specs.Signals.{silent}
use Rattle.generator.specs.Tick.{refuses20, tick_refusal, tick_of}
use Rattle.generator.specs.declared.Generator.{Generator}
use Rattle.machine.specs.Access.{start_limit, write_refusal}
use Rattle.machine.specs.Rules.{written, read_refusal, answered, advanced}
use Rattle.machine.specs.declared.Machine.{Machine}
use Rattle.machine.proofs.Theorems.{write_refused_same, read_refused_zero, read_same, tick_number, tick_refused_same}
use Rattle.picture.specs.Picture.{picture_refusal, drawn_of, buffer_of}
use Rattle.picture.specs.Machines.{pictured}
use Rattle.picture.proofs.Laws.{refused_next, refused_bytes}
use Rattle.demands.specs.Demand1.{first_of, write_order, read_order, tick_order, picture_order, Demand1}

module _ (m : Machine) where
  -- of a word that is checked the limits are asked one by one, and of any other none
  write_first : (address value : ℕ) → (written m address value).refusal ≡ first_of (write_order m address value)
  unfolding written write_refusal start_limit limit_of later_limit
  write_first address value = go (is_control (place_of address) && running value) refl
    where
      go : (t : Bool) → (is_control (place_of address) && running value) ≡ t → (written m address value).refusal ≡ first_of (write_order m address value)
      go true e = simp e
      go false e = simp e

  read_first : (address : ℕ) → (answered m address).refusal ≡ first_of (read_order m address)
  unfolding answered read_refusal
  read_first address = refl

  lent_first : (memory : List ℕ) → (tick_of m.regs memory m.generator).refusal ≡ first_of (tick_order m memory)
  unfolding tick_refusal
  lent_first memory = tick_number m.regs memory m.generator ∙ go (running m.regs.control)
    where
      go : (t : Bool) → ◌≡◌ {A = ℕ} (cond t (cond (refuses20 m.regs memory m.generator) 20 0) 23) (cond (not t) 23 (cond (refuses20 m.regs memory m.generator) 20 0))
      go true = refl
      go false = refl

  tick_first : (memory : List ℕ) → (advanced m memory).refusal ≡ first_of (tick_order m memory)
  unfolding advanced
  tick_first memory = lent_first memory

  -- a refused tick of the machine is one of its generator
  lent_same : (memory : List ℕ) → ((tick_of m.regs memory m.generator).refusal ≡ 0 → ⊥) → ((tick_of m.regs memory m.generator).next ≡ m.generator) × ((tick_of m.regs memory m.generator).signals ≡ silent)
  unfolding advanced
  lent_same memory n = let q = tick_refused_same m memory n in (ap (λ (x : Machine). x.generator) q.0, q.1)

  picture_first : (memory : List ℕ) (size : ℕ) → (pictured m memory size).refusal ≡ first_of (picture_order m memory size)
  unfolding pictured drawn_of picture_refusal
  picture_first memory size = refl

  picture_same : (memory buffer : List ℕ) → ((pictured m memory (length buffer)).refusal ≡ 0 → ⊥) → ((pictured m memory (length buffer)).machine ≡ m) × (buffer_of m.regs memory m.generator buffer ≡ buffer)
  unfolding pictured drawn_of
  picture_same memory buffer n = (
    ap (λ (g : Generator). record { regs = m.regs; generator = g }) (refused_next m.regs memory m.generator buffer n),
    refused_bytes m.regs memory m.generator buffer n,
  )

  -- DEMAND 1
  pub demand_1 : Demand1 m
  demand_1 =
      record {
        write = write_first;
        write_refused = write_refused_same m;
        read = read_first;
        read_refused = λ address n. (read_same m address, read_refused_zero m address n);
        tick = tick_first;
        tick_refused = tick_refused_same m;
        lent = lent_first;
        lent_refused = lent_same;
        picture = picture_first;
        picture_refused = picture_same;
      }
