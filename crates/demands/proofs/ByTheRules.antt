-- A tick that is answered is what the rules say. Assumes nothing.
use Prim.Native.Nat.{ℕ, ◌%◌}
use mathlib.Core.Bool.{Bool, true, false, not, cond, ◌&&◌}
use mathlib.Core.List.{List, [], ◌∷◌}
use mathlib.Core.Path.{◌≡◌, refl, sym, ap, ◌∙◌}
use native.Mathlib.Omega.{arith}
use borrow.Author.Tests.{eq-eqb}
use lib.Dec.{leb}
use Rattle.base.specs.Count.{run}
use Rattle.control.specs.Control.{running, transferring}
use Rattle.units.specs.Parameters.{row_length}
use Rattle.signals.specs.Signals.{black, colours_of}
use Rattle.pixel.specs.Sums.{summed}
use Rattle.generator.specs.Rows.{screen, visible_at, shows, transfer_at, held_address, asks, request_at}
use Rattle.generator.specs.Tick.{dot_of, dots, cleared, sums_after, seen_after, step_with, step, signals_with, signals, refuses20, tick_refusal, tick_of}
use Rattle.generator.specs.declared.Ticked.{Ticked}
use Rattle.machine.specs.Rules.{advanced}
use Rattle.machine.specs.Conditions.{SoundMachine}
use Rattle.machine.specs.declared.Machine.{Machine}
use Rattle.machine.proofs.Theorems.{tick_number}
use Rattle.demands.specs.ByTheRules.{v, out, next, request_now, cleared_now, ByTheRules}

module _ (m : Machine) (memory : List ℕ) (free : (advanced m memory).refusal ≡ 0) where
  number : tick_refusal m.regs memory m.generator ≡ 0
  unfolding advanced
  number = sym (tick_number m.regs memory m.generator) ∙ free

  -- what is answered runs
  pub runs_now : running m.regs.control ≡ true
  unfolding tick_refusal
  runs_now = go (running m.regs.control) refl number
    where
      go : (t : Bool) → running m.regs.control ≡ t → ◌≡◌ {A = ℕ} (cond t (cond (refuses20 m.regs memory m.generator) 20 0) 23) 0 → t ≡ true
      go true e z = refl
      go false e z = absurd (omega (arith, z))

  -- what it puts out, and the generator after it
  whole : ◌≡◌ {A = Ticked} (tick_of m.regs memory m.generator) (record { refusal = 0; signals = signals m.regs memory m.generator; next = step m.regs memory m.generator })
  unfolding tick_of
  whole = simp (eq-eqb _ 0 number)

  put_out : out m memory ≡ signals m.regs memory m.generator
  unfolding advanced
  put_out = ap (λ (t : Ticked). t.signals) whole

  moved : next m memory ≡ step m.regs memory m.generator
  unfolding advanced
  moved = ap (λ (t : Ticked). t.next) whole

  shown_dots : (t : Bool) → shows m.regs m.generator ≡ t →
      dots m.regs memory m.generator ≡ cond (not t) (black ∷ black ∷ black ∷ black ∷ []) (run (dot_of m.regs m.generator.second memory (held_address m.regs m.generator) (v m)) 0 4)
  unfolding dots run
  shown_dots true e = simp e
  shown_dots false e = simp e

  shown_sums : (t : Bool) → shows m.regs m.generator ≡ t →
      sums_after m.regs memory m.generator ≡ cond (not t) (cleared_now m) (summed (cleared_now m) (colours_of (dots m.regs memory m.generator)))
  unfolding sums_after cleared
  shown_sums true e = simp e
  shown_sums false e = simp e

  -- the request's switch is asked once
  request_now_lem : request_at m.regs m.generator ≡ (transferring m.regs.control && request_now m)
  unfolding request_at asks visible_at
  request_now_lem = go (transferring m.regs.control) refl
    where
      go : (t : Bool) → transferring m.regs.control ≡ t → request_at m.regs m.generator ≡ (t && request_now m)
      go true e = simp e
      go false e = simp e

  -- the request at a visible tick is what is kept of it
  asked_now : (t : Bool) → visible_at m.regs m.generator ≡ t →
      cond t (asks m.regs.control (screen m.regs) (v m)) m.generator.asked ≡ cond t (request_at m.regs m.generator) m.generator.asked
  unfolding request_at asks
  asked_now true e = simp e (go (transferring m.regs.control) (leb (screen m.regs).meminit.0 (v m % row_length (screen m.regs))))
    where
      go : (t u : Bool) → (t && u) ≡ (t && (t && u))
      go true u = refl
      go false u = refl
  asked_now false e = refl

  -- A TICK THAT IS ANSWERED IS WHAT THE RULES SAY
  pub by_the_rules : SoundMachine m → ByTheRules m memory
  unfolding advanced signals_with step_with shows visible_at seen_after transfer_at
  by_the_rules z =
      record {
        sync = rw put_out;
        vertical_sync = rw put_out;
        frame_inactive = rw put_out;
        blank = rw put_out;
        request = rw put_out request_now_lem;
        transfer = rw put_out;
        address = rw put_out;
        colours = rw put_out (shown_dots (shows m.regs m.generator) refl);
        checksums = rw (moved, put_out) (shown_sums (shows m.regs m.generator) refl);
        placed = z.placed runs_now;
        second = rw moved;
        half = rw moved;
        at = rw moved;
        seen = rw moved;
        held = rw moved;
        asked = rw (moved, put_out) (asked_now (visible_at m.regs m.generator) refl);
        registers = refl;
      }
