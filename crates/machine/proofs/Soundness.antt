-- The one condition: true of the beginning, and kept by every call. Assumes nothing.
use Prim.Native.Nat.{ℕ}
use mathlib.Core.Bool.{Bool, true, false, cond, true≢false}
use mathlib.Core.List.{List, [], ◌∷◌}
use mathlib.Core.Path.{◌≡◌, refl, sym, ◌∙◌}
use lib.Dec.{eqb}
use borrow.Author.Tests.{eqb-true, not-false}
use Rattle.control.specs.Control.{running, outside}
use Rattle.screen.specs.Limits.{Accepted}
use Rattle.screen.proofs.limits.Laws as limits
use Rattle.registers.specs.Map.{place_of, is_control, is_parameter}
use Rattle.registers.specs.File.{zeros, store_in}
use Rattle.registers.specs.declared.map.Place.{Place}
use Rattle.registers.proofs.map.Laws.{control_open}
use Rattle.registers.proofs.Laws.{control_stored, control_kept, params_kept, zeros_in_widths, stored_in_widths}
use Rattle.generator.specs.Rows.{screen_under, screen, field_at}
use Rattle.generator.specs.Counters.{fresh}
use Rattle.generator.specs.Sound.{Placed, Rolled}
use Rattle.generator.proofs.Kept.{fresh_placed, fresh_rolled, tick_sound}
use Rattle.machine.specs.Access.{changes_format, start_limit, write_refusal}
use Rattle.machine.specs.Rules.{beginning, starts, stored, written, answered, advanced}
use Rattle.machine.specs.Calls.{Call, write, read, tick, after_all}
use Rattle.machine.specs.Conditions.{SoundMachine}
use Rattle.machine.specs.declared.Machine.{Machine}
use Rattle.machine.proofs.access.Passed.{Passed, passed, format_kept}
use Rattle.base.proofs.Bools.{neither_holds}

pub beginning_sound : SoundMachine beginning
unfolding zeros
beginning_sound =
    record { widths = zeros_in_widths; in_build = refl; rolled = fresh_rolled; accepted = λ on. absurd (true≢false (sym on)); placed = λ on. absurd (true≢false (sym on)) }

module _ (m : Machine) (z : SoundMachine m) (p : Place) (value : ℕ) (q : Passed m.regs p value) where
  -- a control write with bit 0 set has kept the limits
  control_accepted : is_control p ≡ true → running value ≡ true → Accepted value (screen_under m.regs value)
  unfolding start_limit
  control_accepted c on = limits.accepted value (screen_under m.regs value) (simp (c, on) at q.limits)

  -- the screen then: as it was, or under the new control word
  same_screen : is_control p ≡ false → is_parameter p ≡ false → screen (store_in m.regs p value) ≡ screen m.regs
  same_screen c e = rw (params_kept m.regs p value e, control_kept m.regs p value c)

  new_screen : is_control p ≡ true → screen (store_in m.regs p value) ≡ screen_under m.regs value
  new_screen c = rw (params_kept m.regs p value (control_open p c), control_stored m.regs p value c)

  -- a control write has passed both halves of 4
  known : is_control p ≡ true → (outside value ≡ false) × (changes_format m.regs value ≡ false)
  known c = neither_holds (outside value) (changes_format m.regs value) (simp c at q.known)

  -- one that leaves the generator running finds its format
  same_format : is_control p ≡ true → running m.regs.control ≡ true → running value ≡ true → screen (store_in m.regs p value) ≡ screen m.regs
  same_format c on stays = new_screen c ∙ rw (format_kept m.regs value on stays (known c).1)

  -- a write at a parameter found the generator stopped
  stopped : is_parameter p ≡ true → running m.regs.control ≡ false
  stopped e = simp e at q.idle

  build : (c : Bool) → is_control p ≡ c → outside (store_in m.regs p value).control ≡ false
  build true c = rw (control_stored m.regs p value c) (known c).0
  build false c = rw (control_kept m.regs p value c) z.in_build

  accepted_on : (c d : Bool) → is_control p ≡ c → is_parameter p ≡ d → running (store_in m.regs p value).control ≡ true → Accepted (store_in m.regs p value).control (screen (store_in m.regs p value))
  accepted_on true d c e on =
      let k = control_stored m.regs p value c in
      rw (new_screen c, k) (control_accepted c (rw k at on))
  accepted_on false true c e on =
      absurd (true≢false (sym (rw (control_kept m.regs p value c) at on) ∙ stopped e))
  accepted_on false false c e on =
      let k = control_kept m.regs p value c in
      rw (same_screen c e, k) (z.accepted (rw k at on))

  -- a start places a fresh generator; any other write finds it where it was
  placed_on : (c d s : Bool) → is_control p ≡ c → is_parameter p ≡ d → starts m.regs p value ≡ s → running (store_in m.regs p value).control ≡ true → Placed (field_at (store_in m.regs p value) (cond s fresh m.generator)) (cond s fresh m.generator)
  placed_on c d true ec ed s on = fresh_placed (store_in m.regs p value) (accepted_on c d ec ed on)
  placed_on true d false c e s on =
      let v : running value ≡ true = rw (control_stored m.regs p value c) at on in
      let ran = not-false (running m.regs.control) (simp (c, v) at s) in
      rw (same_format c ran v) (z.placed ran)
  placed_on false true false c e s on = absurd (true≢false (sym (rw (control_kept m.regs p value c) at on) ∙ stopped e))
  placed_on false false false c e s on = rw (same_screen c e) (z.placed (rw (control_kept m.regs p value c) at on))

  rolled_on : (s : Bool) → Rolled (cond s fresh m.generator)
  rolled_on true = fresh_rolled
  rolled_on false = z.rolled

  stored_sound : SoundMachine (stored m p value)
  unfolding stored
  stored_sound =
      record {
        widths = stored_in_widths m.regs p value z.widths (record { narrow = q.narrow });
        in_build = build (is_control p) refl;
        rolled = rolled_on (starts m.regs p value);
        accepted = accepted_on (is_control p) (is_parameter p) refl refl;
        placed = placed_on (is_control p) (is_parameter p) (starts m.regs p value) refl refl refl;
      }

-- every call keeps the one condition, refused or not
pub write_sound : (m : Machine) (address value : ℕ) → SoundMachine m → SoundMachine (written m address value).machine
unfolding written
write_sound m address value z = go (eqb (write_refusal m.regs (place_of address) value) 0) refl
  where
    go : (b : Bool) → eqb (write_refusal m.regs (place_of address) value) 0 ≡ b → SoundMachine (cond b (stored m (place_of address) value) m)
    go true e = stored_sound m z (place_of address) value (passed m.regs (place_of address) value (eqb-true _ 0 e))
    go false e = z

pub read_sound : (m : Machine) (address : ℕ) → SoundMachine m → SoundMachine (answered m address).machine
unfolding answered
read_sound m address z = z

pub advance_sound : (m : Machine) (memory : List ℕ) → SoundMachine m → SoundMachine (advanced m memory).machine
unfolding advanced
advance_sound m memory z = tick_sound m.regs memory m.generator z

-- and so does any list of calls
pub calls_sound : (m : Machine) (calls : List Call) → SoundMachine m → SoundMachine (after_all m calls)
calls_sound m [] z = z
calls_sound m (write address value ∷ rest) z = calls_sound (written m address value).machine rest (write_sound m address value z)
calls_sound m (read address ∷ rest) z = calls_sound (answered m address).machine rest (read_sound m address z)
calls_sound m (tick memory ∷ rest) z = calls_sound (advanced m memory).machine rest (advance_sound m memory z)
