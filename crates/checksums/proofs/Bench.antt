-- The bench screen's fields are put out and read so: by computation. Assumes nothing.
use Prim.Native.Nat.{ℕ, zero, suc, ◌^◌, ◌≤◌, ◌<◌}
use mathlib.Core.Bool.{true}
use mathlib.Core.Path.{refl}
use native.Mathlib.Omega.{arith}
use lib.ListN.{set, replicate}
use Rattle.base.specs.Count
use Rattle.control.specs.Control
use Rattle.units.specs.Parameters
use Rattle.screen.specs.Limits
use Rattle.registers.specs.Map
use Rattle.registers.specs.File
use Rattle.memory.specs.Memory
use Rattle.colour.specs.Colour
use Rattle.cursor.specs.Cursor
use Rattle.pixel.specs.Dot
use Rattle.pixel.specs.Sums
use Rattle.lines.specs.Lines
use Rattle.generator.specs.Rows
use Rattle.generator.specs.Counters
use Rattle.generator.specs.Tick
use Rattle.machine.specs.Access
use Rattle.machine.specs.Rules
use Rattle.machine.specs.Words
use Rattle.frame.specs.Frame
use Rattle.picture.specs.Picture
use Rattle.picture.specs.Machines
use Rattle.calls.specs.Nine
use Rattle.checksums.specs.Field
use Rattle.checksums.specs.Apart.{byte_in, risen}
use Rattle.checksums.specs.Bench.{field, fives, one_wrong, elsewhere, sixes, drawn, rewritten, Bench}
use Rattle.checksums.proofs.Totals.{set_apart, set_up, set_about, stuck_all}
use Rattle.checksums.proofs.Told.{one_bad_pixel}

-- one red more, and green and blue as they were
red_more : (channel : ℕ) → byte_in channel 0x102030 ≤ byte_in channel 0x112030
red_more zero = omega arith
red_more (suc zero) = omega arith
red_more (suc (suc zero)) = omega arith
red_more (suc (suc (suc k))) = omega arith

few_more : (channel : ℕ) → channel < 3 → risen channel (replicate 16 0x102030) (set (replicate 16 0x102030) 2 0x112030) < 2 ^ 24
few_more zero l = omega arith
few_more (suc zero) l = omega arith
few_more (suc (suc zero)) l = omega arith
few_more (suc (suc (suc k))) l = absurd (omega arith)

pub bench_fields : Bench
unfolding field drawn rewritten Field.with_tick Field.with_ticks Tick.after Frame.refused_within Picture.picture_refusal Picture.drawn_of Machines.ticked Machines.pictured Count.count Count.some Count.run Control.increment Control.row_divisor Parameters.screen_of Limits.later_limit Limits.limit_of Map.place_of File.zeros File.value_in File.store_in Memory.bits_at Memory.pixel_shown Colour.masked_colour Cursor.cursor_code Dot.dot_at Sums.summed Lines.period Lines.line_from Lines.second_half Lines.line_of Lines.in_line Lines.visible Lines.lead Lines.column_of Lines.lines_above Lines.visible_before Lines.field_visible Lines.opens Lines.closes Lines.next_second Lines.next_half Lines.next_at Rows.visible_at Rows.top_used Rows.taken Rows.transfer_at Rows.held_address Rows.place Rows.asks Rows.leads Rows.request_at Rows.shows Counters.displaying Tick.dot_of Tick.dots Tick.refuses20 Tick.cleared Tick.sums_after Tick.seen_after Tick.step_with Tick.signals_with Tick.tick_refusal Tick.tick_of Access.start_limit Access.write_refusal Rules.stored Rules.written Rules.read_refusal Rules.value_at Rules.answered Rules.advanced Words.checksum_words Nine.nine_of
bench_fields =
    record {
      right = record { put = refl; flyback = refl; nine_is = refl };
      one_wrong_told = record { put = refl; flyback = refl; nine_is = refl };
      one_apart = set_apart (replicate 16 0x102030) 2 0x112030 (omega arith) (λ e. omega (arith, e));
      all_rise = record { as_many = refl; up = λ channel i l. set_up (replicate 16 0x102030) 2 0x112030 (omega arith) channel (red_more channel) i; somewhere = omega arith; less = few_more };
      one_told = one_bad_pixel (field fives) (field one_wrong) _ _ refl refl refl refl;
      elsewhere_reads = record { put = refl; flyback = refl; nine_is = refl };
      changed_about = set_about (set (replicate 16 0x102030) 2 0x112030) 2 11 (omega arith) (omega arith) (λ e. omega (arith, e));
      about_told = one_bad_pixel (field one_wrong) (field elsewhere) _ _ refl refl refl refl;
      cancelled_reads = record { put = refl; flyback = refl; nine_is = refl };
      sixes_reads = record { put = refl; flyback = refl; nine_is = refl };
      stuck = stuck_all 0 0 true 16 0x102030 0x112030 refl (omega arith) (omega arith);
      stuck_told = one_bad_pixel (field fives) (field sixes) _ _ refl refl refl refl;
      drawn_reads = record { put = refl; flyback = refl; nine_is = refl };
      rewritten_reads = record { put = refl; flyback = refl; nine_is = refl };
    }
