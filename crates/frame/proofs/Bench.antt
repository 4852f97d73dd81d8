-- Demand 3 is not empty in either format: the bench screen, just started, with 16 bytes of memory meets every premise of it, and the interlaced
-- one with 172. Assumes nothing.
use Prim.Native.Nat.{ℕ, ◌+◌, ◌*◌, ◌≤◌, ◌<◌}
use mathlib.Core.Bool.{Bool, true, false, true≢false}
use mathlib.Core.List.{List, [], ◌∷◌}
use mathlib.Core.Logic.{⊎_elim}
use mathlib.Core.Path.{◌≡◌, refl, sym}
use native.Mathlib.Omega.{arith}
use lib.Dec.{leb, leb→le}
use lib.ListN.{length, get_or, replicate, get_or-eq_default}
use Rattle.base.specs.Count.{run}
use Rattle.base.proofs.Table.{entry}
use Rattle.control.specs.Control.{outside, increment, row_divisor}
use Rattle.units.specs.Parameters.{screen_of}
use Rattle.screen.specs.Limits.{limit_of, later_limit, Accepted}
use Rattle.screen.specs.Totals.{totals_of}
use Rattle.screen.proofs.limits.Laws.{accepted}
use Rattle.lines.specs.Lines.{line_from, line_of, second_half, in_line, lead, column_of, lines_above, field_visible}
use Rattle.registers.specs.File.{InWidths}
use Rattle.registers.proofs.Laws.{zeros_in_widths}
use Rattle.generator.specs.Rows.{screen}
use Rattle.generator.specs.Counters.{fresh}
use Rattle.generator.specs.Sound.{Sound}
use Rattle.generator.proofs.Kept.{fresh_placed, fresh_rolled}
use Rattle.screen.specs.Bench.{bench_parameters, interlaced_parameters}
use Rattle.frame.specs.Bench.{bench_control, interlaced_control, started_with, bench_registers, interlaced_registers}
use Rattle.frame.specs.Frame.{FieldOf, pixels_seen}
use Rattle.frame.specs.Demand.{addresses_answered, first_address, transfers_seen, field_place, Ready, Counted}
use Rattle.frame.proofs.Demand.{demand_3}
use Rattle.frame.proofs.Totals.{frame_totals_lem}
use Rattle.base.proofs.Bools.{below}

-- registers with fourteen parameters of 24 bits, and a control word in the build
module _ (params : List ℕ) (control : ℕ) (many : length params ≡ 14) (in24 : (k : ℕ) → get_or params k 0 ≤ 0xFFFFFF) (narrow : control ≤ 0xFFFFFF) (built : outside control ≡ false)
    (unlimited : limit_of control (screen (started_with params control)) ≡ 0) where
  in_widths : InWidths (started_with params control)
  unfolding started_with
  in_widths =
      record {
        params_length = many;
        colours_length = zeros_in_widths.colours_length;
        palette_length = zeros_in_widths.palette_length;
        store_length = zeros_in_widths.store_length;
        params = in24;
        mask = zeros_in_widths.mask;
        control = narrow;
        top = omega arith;
        colours = zeros_in_widths.colours;
        position = zeros_in_widths.position;
        palette = zeros_in_widths.palette;
        store = zeros_in_widths.store;
      }

  started_accepted : Accepted (started_with params control).control (screen (started_with params control))
  unfolding started_with
  started_accepted = accepted control (screen (started_with params control)) unlimited

  started_sound : Sound (started_with params control) fresh
  unfolding started_with
  started_sound =
      record { widths = in_widths; in_build = built; rolled = fresh_rolled; accepted = λ on. started_accepted; placed = λ on. fresh_placed (started_with params control) started_accepted }

bench_in : (k : ℕ) → get_or bench_parameters k 0 ≤ 0xFFFFFF
bench_in k =
    ⊎_elim
    (λ p. leb→le _ _ (entry (λ number value. leb value 0xFFFFFF) bench_parameters tt k p))
    (λ p. let e = get_or-eq_default bench_parameters 0 p in omega arith)
    (below k 14)

interlaced_in : (k : ℕ) → get_or interlaced_parameters k 0 ≤ 0xFFFFFF
interlaced_in k =
    ⊎_elim
    (λ p. leb→le _ _ (entry (λ number value. leb value 0xFFFFFF) interlaced_parameters tt k p))
    (λ p. let e = get_or-eq_default interlaced_parameters 0 p in omega arith)
    (below k 14)

-- none of 10 to 18, computed
bench_unlimited : limit_of bench_control (screen bench_registers) ≡ 0
unfolding started_with limit_of later_limit screen_of
bench_unlimited = refl

interlaced_unlimited : limit_of interlaced_control (screen interlaced_registers) ≡ 0
unfolding started_with limit_of later_limit screen_of
interlaced_unlimited = refl

pub bench_sound : Sound bench_registers fresh
bench_sound = started_sound bench_parameters bench_control refl bench_in (omega arith) refl bench_unlimited

pub interlaced_sound : Sound interlaced_registers fresh
interlaced_sound = started_sound interlaced_parameters interlaced_control refl interlaced_in (omega arith) refl interlaced_unlimited

-- sixteen bytes are enough
pub bench_ready : Ready bench_registers (replicate 16 0) fresh
unfolding started_with screen_of increment row_divisor field_place field_visible lines_above line_of column_of in_line second_half line_from lead
bench_ready =
    record {
      sound = bench_sound;
      runs = refl;
      start = record { field = refl; half = refl; at = refl };
      transfers = refl;
      unblanked = refl;
      room = room;
      unrolled = unrolled;
    }
  where
    room : (second : Bool) (i : ℕ) → FieldOf bench_registers second → i < pixels_seen bench_registers second → (field_place bench_registers second i + 1) * 8 ≤ 128
    room true i f l = absurd (true≢false (sym (f refl)))
    room false i f l = omega arith

    unrolled : (second : Bool) (j : ℕ) → FieldOf bench_registers second → j < transfers_seen bench_registers second → first_address bench_registers second + j * 256 ≤ 0xFFFFFF
    unrolled true j f l = absurd (true≢false (sym (f refl)))
    unrolled false j f l = omega arith

pub interlaced_ready : Ready interlaced_registers (replicate 172 0) fresh
unfolding started_with screen_of increment row_divisor field_place field_visible lines_above line_of column_of in_line second_half line_from lead
interlaced_ready =
    record {
      sound = interlaced_sound;
      runs = refl;
      start = record { field = refl; half = refl; at = refl };
      transfers = refl;
      unblanked = refl;
      room = room;
      unrolled = unrolled;
    }
  where
    room : (second : Bool) (i : ℕ) → FieldOf interlaced_registers second → i < pixels_seen interlaced_registers second → (field_place interlaced_registers second i + 1) * 8 ≤ 1376
    room true i f l = omega arith
    room false i f l = omega arith

    unrolled : (second : Bool) (j : ℕ) → FieldOf interlaced_registers second → j < transfers_seen interlaced_registers second → first_address interlaced_registers second + j * 2 ≤ 0xFFFFFF
    unrolled true j f l = omega arith
    unrolled false j f l = omega arith

-- its counts are 63 ticks, 4 of them visible, 2 transfers and 16 pixels
pub bench_totals : Counted bench_registers (replicate 16 0) fresh (record { refusal = 0; ticks = record { 0 = 63 }; visible = record { 0 = 4 }; transfers = 2; pixels = record { 0 = 16 } })
unfolding started_with screen_of totals_of limit_of later_limit field_visible lines_above line_of column_of in_line second_half line_from lead
bench_totals = frame_totals_lem bench_registers (replicate 16 0) fresh bench_ready

-- and the interlaced one's 98, 18, 7 and 72: its transfers are rounded up in each field
pub interlaced_totals : Counted interlaced_registers (replicate 172 0) fresh (record { refusal = 0; ticks = record { 0 = 98 }; visible = record { 0 = 18 }; transfers = 7; pixels = record { 0 = 72 } })
unfolding started_with screen_of totals_of limit_of later_limit field_visible lines_above line_of column_of in_line second_half line_from lead
interlaced_totals = frame_totals_lem interlaced_registers (replicate 172 0) fresh interlaced_ready

-- and its addresses 7 and 263, and with the fields 7, 9, 11 and 8, 10, 12, 14
pub bench_addresses : addresses_answered bench_registers (replicate 16 0) fresh 63 ≡ 7 ∷ 263 ∷ []
unfolding started_with screen_of increment run field_visible lines_above line_of column_of in_line second_half line_from lead
bench_addresses = (demand_3 bench_registers (replicate 16 0) fresh bench_ready).addresses

pub interlaced_addresses : addresses_answered interlaced_registers (replicate 172 0) fresh 98 ≡ 7 ∷ 9 ∷ 11 ∷ 8 ∷ 10 ∷ 12 ∷ 14 ∷ []
unfolding started_with screen_of increment run field_visible lines_above line_of column_of in_line second_half line_from lead
interlaced_addresses = (demand_3 interlaced_registers (replicate 172 0) fresh interlaced_ready).addresses
