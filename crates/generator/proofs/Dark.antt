-- Ticks before VDisplay are never refused, and move nothing but the place. Assumes nothing.
use Prim.Native.Nat.{ℕ, ◌+◌, ◌/◌, ◌%◌, ◌<◌}
use mathlib.Core.Bool.{false}
use mathlib.Core.List.{List}
use mathlib.Core.Path.{◌≡◌, sym, ◌∙◌}
use native.Mathlib.Nat.{mod-lt, div-lt_iff_lt-mul, div-add-mod'}
use native.Mathlib.Omega.{arith}
use borrow.Author.Tests.{ne_eqb}
use Rattle.units.specs.Parameters.{half_ticks, halves_to_vdisplay}
use Rattle.screen.proofs.limits.Laws.{accepted_in}
use Rattle.registers.specs.declared.Registers.{Registers}
use Rattle.lines.specs.Lines.{opens, closes, next_half, next_at, tick_number}
use Rattle.generator.specs.Rows.{screen, field_at, visible_at, shows, taken, transfer_at, held_address}
use Rattle.generator.specs.Tick.{refuses20, cleared, sums_after, seen_after, step_with, tick_refusal, tick_of}
use Rattle.generator.specs.Stand.{Runs}
use Rattle.generator.specs.Dark.{field_tick, ticks_to_vdisplay, moved_to}
use Rattle.generator.specs.declared.Generator.{Generator}
use Rattle.generator.proofs.VisibleBefore.{dark, number_half, number_at, visible_none}
use Rattle.generator.proofs.Kept.{Next, next, line_open, same_field}

module _ (r : Registers) (m : List ℕ) (g : Generator) (k : Runs r g) (early : g.half.0 < halves_to_vdisplay (field_at r g)) where
  unseen : visible_at r g ≡ false
  unfolding visible_at
  unseen = dark (field_at r g) g.half.0 g.at.0 early

  unshown : shows r g ≡ false
  unfolding shows
  unshown = rw unseen

  unopened : opens (field_at r g) g.half.0 g.at.0 ≡ false
  unfolding opens
  unopened = simp (ne_eqb g.half.0 (halves_to_vdisplay (field_at r g)) (λ e. omega arith))

  goes_on : closes (field_at r g) g.half.0 g.at.0 ≡ false
  goes_on = line_open (field_at r g) g.half.0 g.at.0 (omega (arith, k.accepted.bounded.vdisplay.low))

  pub dark_taken : (tick_of r m g).refusal ≡ 0
  unfolding tick_of tick_refusal refuses20
  dark_taken = simp (k.runs, unshown)

  held_kept : held_address r g ≡ g.held
  unfolding held_address transfer_at taken
  held_kept = simp (unseen, unopened)

  sums_kept : sums_after r m g ≡ g.sums
  unfolding sums_after cleared
  sums_kept = simp (unshown, unopened)

  on : Next (field_at r g) g.half.0 g.at.0
  on = next (field_at r g) g.half.0 g.at.0 k.placed.half_in k.placed.at_in

  number_on : tick_number (field_at r g) (next_half (field_at r g) g.half.0 g.at.0) (next_at (field_at r g) g.at.0) ≡ field_tick (field_at r g) g + 1
  number_on = rw goes_on at on.number

  half_on : next_half (field_at r g) g.half.0 g.at.0 ≡ (field_tick (field_at r g) g + 1) / half_ticks (field_at r g)
  half_on = sym (rw (← number_on) (number_half (next_half (field_at r g) g.half.0 g.at.0) (next_at (field_at r g) g.at.0) (half_ticks (field_at r g)) on.at_in))

  at_on : next_at (field_at r g) g.at.0 ≡ (field_tick (field_at r g) g + 1) % half_ticks (field_at r g)
  at_on = sym (rw (← number_on) (number_at (next_half (field_at r g) g.half.0 g.at.0) (next_at (field_at r g) g.at.0) (half_ticks (field_at r g)) on.at_in))

  -- one such tick
  pub dark_next : (tick_of r m g).next ≡ moved_to (field_at r g) g (field_tick (field_at r g) g + 1)
  unfolding tick_of tick_refusal refuses20 step_with seen_after
  dark_next = simp (k.runs, unshown, goes_on, unseen, held_kept, sums_kept, same_field (field_at r g) g.half.0 g.at.0 goes_on, half_on, at_on)

-- and of a generator moved to any such place
module _ (r : Registers) (g : Generator) (k : Runs r g) (early : g.half.0 < halves_to_vdisplay (field_at r g)) where
  some_ticks : 0 < half_ticks (field_at r g)
  some_ticks = omega (arith, k.accepted.half_holds)

  moved_early : (n : ℕ) → n < ticks_to_vdisplay (field_at r g) → n / half_ticks (field_at r g) < halves_to_vdisplay (field_at r g)
  moved_early n l = (div-lt_iff_lt-mul {k = half_ticks (field_at r g)} some_ticks).1 l

  none_seen : g.seen.0 ≡ 0
  none_seen = k.placed.seen_is ∙ visible_none r.control (field_at r g) (accepted_in (screen r) g.second k.accepted) g.half.0 g.at.0 k.placed.at_in early

  moved_runs : (n : ℕ) → n < ticks_to_vdisplay (field_at r g) → Runs r (moved_to (field_at r g) g n)
  moved_runs n l =
      record {
        runs = k.runs;
        accepted = k.accepted;
        placed =
            record {
              field_in = k.placed.field_in;
              half_in = omega (arith, moved_early n l);
              at_in = mod-lt n some_ticks;
              seen_is =
                  none_seen ∙ sym (visible_none r.control (field_at r g) (accepted_in (screen r) g.second k.accepted) (n / half_ticks (field_at r g)) (n % half_ticks (field_at r g)) (mod-lt n some_ticks) (moved_early n l));
            };
      }

  -- where it stands
  pub moved_from : g ≡ moved_to (field_at r g) g (field_tick (field_at r g) g)
  moved_from = rw (number_half g.half.0 g.at.0 (half_ticks (field_at r g)) k.placed.at_in, number_at g.half.0 g.at.0 (half_ticks (field_at r g)) k.placed.at_in)

  module _ (m : List ℕ) (n : ℕ) (l : n < ticks_to_vdisplay (field_at r g)) where
    pub moved_taken : (tick_of r m (moved_to (field_at r g) g n)).refusal ≡ 0
    moved_taken = dark_taken r m (moved_to (field_at r g) g n) (moved_runs n l) (moved_early n l)

    pub moved_next : (tick_of r m (moved_to (field_at r g) g n)).next ≡ moved_to (field_at r g) g (n + 1)
    moved_next = rw (div-add-mod' n (half_ticks (field_at r g))) at (dark_next r m (moved_to (field_at r g) g n) (moved_runs n l) (moved_early n l))
