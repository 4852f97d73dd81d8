-- What a good command does, by its kind. Assumes nothing.
use Prim.Native.Nat.{ℕ, ◌≤◌}
use mathlib.Core.List.{List}
use mathlib.Core.Path.{◌≡◌, refl, sym, ap, subst, ◌∙◌}
use lib.ListN.{length, take}
use lib.Seq.{length-take-le}
use Rattle.machine.specs.Rules.{written}
use Rattle.machine.specs.declared.Machine.{Machine}
use Rattle.machine.specs.declared.Written.{Written}
use Rattle.machine.specs.Conditions.{SoundMachine}
use Rattle.calls.specs.Calls.{ran_of}
use Rattle.calls.specs.declared.Ran.{Ran}
use Rattle.picture.specs.Picture.{buffer_of}
use Rattle.picture.specs.Machines.{pictured}
use Rattle.picture.specs.declared.whole.Pictured.{Pictured}
use Rattle.picture.proofs.Machines.{picture_sound}
use Rattle.script.specs.declared.command.Command.{Command}
use Rattle.script.specs.Names.{kind_of}
use mathlib.Core.Logic.{◌⊎◌}
use Rattle.script.specs.declared.names.Kind.{Kind}
use Rattle.script.specs.declared.names.Kind.TheVariants.{WritesRegister, ChangesMemory, RunsTicks, DrawsPicture, OnlyAsks}
use Rattle.script.specs.Script.{ticks_of}
use Rattle.changes.specs.LentMemory.{number, memory_after, lent_after}
use Rattle.changes.proofs.lent_memory.Cases.{change_other}
use Rattle.changes.specs.declared.Done.{Done}
use Rattle.changes.specs.Changes.{write_done, run_done, draw_done, within, done_of, drawn_after, picture_after}

module _ (m : Machine) (lent : ℕ) where
  pub write_done_lem : (address value : ℕ) (w : Written) → w ≡ written m address value → ◌≡◌ {A = Done} (record { refusal = w.refusal; ticks = 0; memory = lent; machine = w.machine }) (write_done m lent address value)
  unfolding write_done
  write_done_lem address value w e = rw (← e) refl

  -- with a part of the memory that is the bytes lent
  module _ (part bytes : List ℕ) (eb : part ≡ bytes) where
    pub run_done_lem : (count : ℕ) (r : Ran) → r ≡ ran_of part m count → ◌≡◌ {A = Done} (record { refusal = r.refusal; ticks = r.done; memory = lent; machine = r.machine }) (run_done m lent bytes count)
    unfolding run_done
    run_done_lem count r e = rw (← eb, ← e) refl

    module _ (size : ℕ) (p : Pictured) (e : p ≡ pictured m part size) where
      pub draw_done_lem : ◌≡◌ {A = Done} (record { refusal = p.refusal; ticks = 0; memory = lent; machine = p.machine }) (draw_done m lent bytes size)
      unfolding draw_done
      draw_done_lem = rw (← eb, ← e) refl

      pub draw_sound : SoundMachine m → SoundMachine p.machine
      draw_sound z = subst (λ (q : Pictured). SoundMachine q.machine) (sym e) (picture_sound m part size z)

    pub draw_bytes : (buffer colours : List ℕ) → colours ≡ buffer_of m.regs part m.generator buffer → colours ≡ buffer_of m.regs bytes m.generator buffer
    draw_bytes buffer colours e = rw (← eb) e

  -- a picture into the first bytes of its room
  module _ (bytes picture : List ℕ) (wanted size : ℕ) (es : size ≡ within wanted (length picture)) (h : size ≤ length picture) where
    pub first_done_lem : (d : Done) → d ≡ draw_done m lent bytes (length (take size picture)) → d ≡ draw_done m lent bytes (within wanted (length picture))
    first_done_lem d e = e ∙ ap (draw_done m lent bytes) (length-take-le size picture h ∙ es)

module _ (c : Command) (m : Machine) (lent : ℕ) (memory picture : List ℕ) where
  -- the machine, the memory and the picture after it
  abbrev pub Does : Done → List ℕ → List ℕ → Type 0
  Does d bytes colours = (d ≡ done_of c m lent memory (length picture)) × ((bytes ≡ memory_after c memory) × (colours ≡ picture_after c m lent memory picture))

  -- only commands that change the memory do
  unchanged : (kind_of c.name ≡ ChangesMemory → ⊥) → memory ≡ memory_after c memory
  unchanged n = (change_other c lent memory memory (λ h. n (rw h refl)) (λ h. n (rw h refl)) (λ h. n (rw h refl)) refl).1

  module _ (k : WritesRegister ≡ kind_of c.name) where
    pub does_write : (d : Done) → d ≡ write_done m lent (number c 0) (number c 1) → Does d memory picture
    unfolding done_of picture_after
    does_write d e = (rw (← k) e, (unchanged (λ o. absurd (cc)), rw (← k) refl))

  module _ (k : RunsTicks ≡ kind_of c.name) where
    pub does_run : (count : ℕ) → count ≡ ticks_of c → (d : Done) → d ≡ run_done m lent (take lent memory) count → Does d memory picture
    unfolding done_of picture_after
    does_run count ec d e = (rw (← k, ← ec) e, (unchanged (λ o. absurd (cc)), rw (← k) refl))

    -- ticks that are run another way
    pub does_tick : (done_of c m lent memory (length picture) ≡ run_done m lent (take lent memory) (ticks_of c)) × ((memory ≡ memory_after c memory) × (picture ≡ picture_after c m lent memory picture))
    does_tick = let e = does_run (ticks_of c) refl _ refl in (sym e.0, e.1)

  module _ (k : DrawsPicture ≡ kind_of c.name) where
    pub does_draw : (d : Done) (colours : List ℕ) → d ≡ draw_done m lent (take lent memory) (within (number c 0) (length picture)) → colours ≡ drawn_after c m lent memory picture → Does d memory colours
    unfolding done_of picture_after
    does_draw d colours e b = (rw (← k) e, (unchanged (λ o. absurd (cc)), rw (← k) b))

  module _ (k : Kind) (ek : k ≡ kind_of c.name) (lends : ℕ) (bytes : List ℕ) (e : lends ≡ lent_after c lent) (b : bytes ≡ memory_after c memory) where
    pub does_change : (k ≡ ChangesMemory) ⊎ (k ≡ OnlyAsks) → Does (record { refusal = 0; ticks = 0; memory = lends; machine = m }) bytes picture
    unfolding done_of picture_after
    does_change (◌⊎◌.inl h) = (rw (← ek, h, e) refl, (b, rw (← ek, h) refl))
    does_change (◌⊎◌.inr h) = (rw (← ek, h, e) refl, (b, rw (← ek, h) refl))
