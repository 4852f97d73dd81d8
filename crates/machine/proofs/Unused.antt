-- LineStart and bits 2 and 5 to 9 of control A change nothing but their own reading. Assumes nothing.
use Prim.Native.Nat.{ℕ, ◌+◌, ◌/◌, ◌%◌}
use mathlib.Core.Bool.{Bool, true, false, not, cond}
use mathlib.Core.List.{List}
use mathlib.Core.Path.{◌≡◌, refl, ap}
use native.Mathlib.Omega.{arith}
use lib.Dec.{eqb}
use Rattle.base.specs.Count.{some}
use Rattle.base.proofs.Run.{run_same}
use Rattle.control.specs.Control.{field, bit, running, interlaced, plain, forced_blank, transferring, cursor_on, outside, depth, increment_code, increment, row_divisor}
use Rattle.screen.specs.Limits.{later_limit, limit_of}
use Rattle.registers.specs.declared.Registers.{Registers}
use Rattle.memory.specs.Memory.{pixel_shown}
use Rattle.pixel.specs.Dot.{dot_at}
use Rattle.signals.specs.declared.Dot.{Dot}
use Rattle.pixel.specs.declared.Sums.{Sums}
use Rattle.lines.specs.Lines.{period, line_from, line_of, second_half, in_line, visible, lead, column_of, lines_above, opens, closes, next_second, next_half, next_at, visible_before, field_visible}
use Rattle.generator.specs.Rows.{screen, field_at, visible_at, shows, top_used, taken, transfer_at, held_address, place, asks, leads, request_at}
use Rattle.generator.specs.Tick.{dot_of, dots, refuses20, cleared, sums_after, seen_after, step_with, signals_with, tick_refusal, tick_of}
use Rattle.generator.specs.declared.Generator.{Generator}
use Rattle.generator.specs.declared.Ticked.{Ticked}
use Rattle.machine.specs.Access.{changes_format}
use Rattle.machine.specs.Alike.{SameMode, Alike, SameColours}

-- a field from bit 15 on is one of the word past bit 10
past_ten : (n : ℕ) → n / 1024 / 32 % 32 ≡ field 15 5 n
past_ten n = omega arith

high_field : (c d : ℕ) → d / 1024 ≡ c / 1024 → field 15 5 d ≡ field 15 5 c
high_field c d e = rw (← (past_ten d), ← (past_ten c), e)

bit_1 : (c d : ℕ) → d % 4 ≡ c % 4 → field 1 1 d ≡ field 1 1 c
bit_1 c d e = omega arith

bit_11 : (c d : ℕ) → d / 1024 ≡ c / 1024 → field 11 1 d ≡ field 11 1 c
bit_11 c d e = omega arith

bit_22 : (c d : ℕ) → d / 1024 ≡ c / 1024 → field 22 1 d ≡ field 22 1 c
bit_22 c d e = omega arith

-- what such words share: every switch and field that has an effect
module _ (c d : ℕ) (m : SameMode c d) where
  same_bit : (n : ℕ) → field n 1 d ≡ field n 1 c → bit n d ≡ bit n c
  same_bit n e = rw e

  pub same_running : running d ≡ running c
  same_running = same_bit 0 (omega (arith, m.low))

  same_blank : forced_blank d ≡ forced_blank c
  same_blank = same_bit 10 (omega (arith, m.high))

  same_transferring : transferring d ≡ transferring c
  same_transferring = ap not (same_bit 14 (omega (arith, m.high)))

  same_cursor : cursor_on d ≡ cursor_on c
  same_cursor = ap not (same_bit 23 (omega (arith, m.high)))

  same_depth : depth d ≡ depth c
  same_depth = omega (arith, m.high)

  pub same_interlaced : interlaced d ≡ interlaced c
  same_interlaced = same_bit 1 (bit_1 c d m.low)

  same_code : increment_code d ≡ increment_code c
  same_code = omega (arith, m.high)

  same_increment : increment d ≡ increment c
  unfolding increment
  same_increment = rw (same_interlaced, same_code)

  same_divisor : row_divisor d ≡ row_divisor c
  unfolding row_divisor
  same_divisor = rw (same_interlaced, same_code, same_increment)

  pub same_outside : outside d ≡ outside c
  same_outside = rw (m.middle, bit_11 c d m.high, high_field c d m.high, bit_22 c d m.high)

either : (b : Bool) (x y z : Ticked) → SameColours x y → SameColours (cond b x z) (cond b y z)
either true x y z e = e
either false x y z e = record { refusal = refl; dots = refl; next = refl }

module _ (r other : Registers) (n : ℕ) (a : Alike r other n) where
  abbrev c : ℕ
  c = r.control

  abbrev d : ℕ
  d = other.control

  -- the same screens start
  pub same_limit : limit_of d (screen other) ≡ limit_of c (screen r)
  unfolding limit_of later_limit
  same_limit = rw (a.line_start, same_depth c d a.mode)

  -- the same words change the format
  pub same_changes : (value : ℕ) → changes_format other value ≡ changes_format r value
  same_changes value = rw (same_running c d a.mode, same_interlaced c d a.mode)

  module _ (g : Generator) where
    pub same_visible : visible_at other g ≡ visible_at r g
    unfolding visible_at visible period in_line second_half line_from
    same_visible = rw a.line_start

    same_taken : taken other g ≡ taken r g
    unfolding top_used taken opens
    same_taken = rw (a.line_start, a.top, same_code c d a.mode)

    same_transfer : transfer_at other g ≡ transfer_at r g
    unfolding transfer_at
    same_transfer = rw (same_visible, a.line_start)

    same_held : held_address other g ≡ held_address r g
    unfolding held_address
    same_held = rw (same_transfer, same_taken, same_increment c d a.mode)

    same_asks : (v : ℕ) → asks d (screen other) v ≡ asks c (screen r) v
    unfolding asks
    same_asks v = rw (a.line_start, same_transferring c d a.mode)

    same_leads : (k : ℕ) → leads (field_at other g) k ≡ leads (field_at r g) k
    unfolding leads visible_before visible period in_line second_half line_from
    same_leads k = rw a.line_start

    same_all : field_visible (field_at other g) ≡ field_visible (field_at r g)
    unfolding field_visible lines_above line_of column_of lead in_line second_half line_from
    same_all = rw a.line_start

    same_request : request_at other g ≡ request_at r g
    unfolding request_at
    same_request = rw (same_visible, same_asks g.seen.0, same_leads, same_all, same_transferring c d a.mode, a.line_start)

    same_shows : shows other g ≡ shows r g
    unfolding shows
    same_shows = rw (same_visible, same_blank c d a.mode)

  same_place : (address v k : ℕ) → place other address v k ≡ place r address v k
  unfolding place
  same_place address v k = rw (a.line_start, same_divisor c d a.mode)

  same_dot : (second : Bool) (m : List ℕ) (address v k : ℕ) → dot_of other second m address v k ≡ dot_of r second m address v k
  unfolding dot_of dot_at pixel_shown lead in_line second_half line_from
  same_dot second m address v k =
      rw (same_place address v k, a.line_start, a.mask, a.colours, a.position, a.palette, a.store, same_transferring c d a.mode, same_cursor c d a.mode, same_depth c d a.mode)

  module _ (m : List ℕ) (g : Generator) where
    same_dots : dots other m g ≡ dots r m g
    unfolding dots
    same_dots =
        rw (same_shows g, same_held g, run_same (dot_of other g.second m (held_address r g) g.seen.0) (dot_of r g.second m (held_address r g) g.seen.0) 0 0 4 (λ k p. same_dot g.second m (held_address r g) g.seen.0 (0 + k)))

    same_refuses : refuses20 other m g ≡ refuses20 r m g
    unfolding refuses20 some
    same_refuses = rw (same_shows g, same_held g, same_transferring c d a.mode, same_depth c d a.mode) (simp same_place)

    same_sums : sums_after other m g ≡ sums_after r m g
    unfolding sums_after cleared opens
    same_sums = rw (same_shows g, same_dots, a.line_start)

    same_step : (sums : Sums) → step_with other g sums ≡ step_with r g sums
    unfolding step_with seen_after closes next_second next_half next_at
    same_step sums = rw (same_visible g, same_held g, same_asks g g.seen.0, a.line_start)

    same_signals : plain d ≡ plain c → (four : List Dot) → signals_with other g four ≡ signals_with r g four
    unfolding signals_with period in_line second_half line_from
    same_signals p four =
        rw (same_shows g, same_request g, same_held g, same_transfer g, p, same_transferring c d a.mode, a.line_start)

    same_number : tick_refusal other m g ≡ tick_refusal r m g
    unfolding tick_refusal
    same_number = rw (same_running c d a.mode, same_refuses)

    -- every answer of a tick, and the generator after it
    pub same_tick : plain d ≡ plain c → tick_of other m g ≡ tick_of r m g
    unfolding tick_of
    same_tick p = rw (same_number, same_sums, same_dots, same_step (sums_after r m g), same_signals p (dots r m g))

    -- bit 4 changes no refusal, no colour and no sum
    pub same_but_sync : SameColours (tick_of other m g) (tick_of r m g)
    unfolding tick_of signals_with
    same_but_sync =
        rw (same_number, same_sums, same_dots, same_step (sums_after r m g))
        (either (eqb (tick_refusal r m g) 0) _ _ _ (record { refusal = refl; dots = refl; next = refl }))
