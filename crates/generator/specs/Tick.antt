-- One tick (01, "Lines and frames", "Rows and pixels"; 02, Q-4): whether it is refused, what it puts out, the generator after it.
-- r: the registers, m: the picture memory, g: the generator before the tick. Assumes nothing.
use Rattle.std.specs.Prelude.{ℕ, zero, suc, ◌+◌, ◌*◌, ◌/◌, ◌%◌, Bool, not, cond, ◌&&◌, List, eqb}
use Rattle.base.specs.Count.{some, run}
use Rattle.control.specs.Control.{running, plain, transferring, pixel_bits}
use Rattle.registers.specs.declared.Registers.{Registers}
use Rattle.signals.specs.Signals.{black, colours_of, silent}
use Rattle.signals.specs.declared.Dot.{Dot}
use Rattle.signals.specs.declared.Signals.{Signals}
use Rattle.memory.specs.Memory.{ends_beyond}
use Rattle.pixel.specs.Dot.{dot_at}
use Rattle.pixel.specs.Sums.{cleared_at, summed_where}
use Rattle.pixel.specs.declared.Sums.{Sums}
use Rattle.lines.specs.Lines.{period, is_vsync, is_vdisplay, sync_low, lead, opens, closes, next_second, next_half, next_at}
use Rattle.units.specs.Parameters.{in_field}
use Rattle.generator.specs.Rows.{screen, field_at, visible_at, shows, transfer_at, held_address, place, asks, request_at}
use Rattle.generator.specs.declared.Generator.{Generator}
use Rattle.generator.specs.declared.Ticked.{Ticked}

-- the cursor position that the colours use: the written one
abbrev pub position_used : Registers → ℕ
position_used r = r.position

-- visible tick v of a field among the Display ticks of its lines: where VDisplay begins with a second half, the lead stood before it
abbrev pub in_lines : Registers → Bool → ℕ → ℕ
in_lines r second v = v + lead (in_field second (screen r))

-- pixel k of visible tick v of a field, where an address is held: Display ticks of four pixels to a line
unfoldable pub dot_of : Registers → Bool → List ℕ → ℕ → ℕ → ℕ → Dot
dot_of r second m address v k =
    dot_at r (position_used r) m (place r address v k)
    (4 * (in_lines r second v % (screen r).display.0) + k)
    (in_lines r second v / (screen r).display.0)

-- a blank tick puts out four black pixels
unfoldable pub dots : Registers → List ℕ → Generator → List Dot
dots r m g = cond (shows r g) (run (dot_of r g.second m (held_address r g) g.seen.0) 0 4) (run (λ k. black) 0 4)

-- refusal 20: one of the four pixels is to be read and ends beyond the memory
unfoldable pub refuses20 : Registers → List ℕ → Generator → Bool
refuses20 r m g =
    shows r g
    && (transferring r.control
    && some (λ k. ends_beyond (pixel_bits r.control) m (place r (held_address r g) g.seen.0 k)) 4)

-- sums clear at the first VDisplay tick of each field, before its pixels are added; each unblanked colour byte is added
unfoldable pub cleared : Registers → Generator → Sums
cleared r g = cleared_at (opens (field_at r g) g.half.0 g.at.0) g.sums

unfoldable pub sums_after : Registers → List ℕ → Generator → Sums
sums_after r m g = summed_where (shows r g) (cleared r g) (colours_of (dots r m g))

-- v counts a field's visible ticks from 0
unfoldable pub seen_after : Registers → Generator → ℕ
seen_after r g = cond (visible_at r g) (g.seen.0 + 1) g.seen.0

-- the generator after a tick that is not refused, with the sums it leaves
unfoldable pub step_with : Registers → Generator → Sums → Generator
step_with r g sums =
    record {
      second = next_second (field_at r g) g.half.0 g.at.0;
      half = record { 0 = next_half (field_at r g) g.half.0 g.at.0 };
      at = record { 0 = next_at (field_at r g) g.at.0 };
      seen = record { 0 = cond (closes (field_at r g) g.half.0 g.at.0) 0 (seen_after r g) };
      held = held_address r g;
      asked = cond (visible_at r g) (asks r.control (screen r) g.seen.0) g.asked;
      sums = sums;
    }

abbrev pub step : Registers → List ℕ → Generator → Generator
step r m g = step_with r g (sums_after r m g)

-- what it puts out, with its four pixels; true is high. FrameInactive is high in all but VDisplay; vertical sync is low exactly in VSync;
-- an address is answered only at a transfer
unfoldable pub signals_with : Registers → Generator → List Dot → Signals
signals_with r g four =
    record {
      sync = not (sync_low (field_at r g) (plain r.control) g.half.0 g.at.0);
      vsync = not (is_vsync (period (field_at r g) g.half.0));
      inactive = not (is_vdisplay (period (field_at r g) g.half.0));
      blank = not (shows r g);
      request = request_at r g;
      transfer = transferring r.control && transfer_at r g;
      address = cond (transferring r.control && transfer_at r g) (held_address r g) 0;
      dots = four;
    }

abbrev pub signals : Registers → List ℕ → Generator → Signals
signals r m g = signals_with r g (dots r m g)

-- the order for a tick: 23, 20
unfoldable pub tick_refusal : Registers → List ℕ → Generator → ℕ
tick_refusal r m g = cond (running r.control) (cond (refuses20 r m g) 20 0) 23

-- ONE TICK: a refused one moves nothing, and answers 0 for all else
unfoldable pub tick_of : Registers → List ℕ → Generator → Ticked
tick_of r m g =
    cond (eqb (tick_refusal r m g) 0)
    (record { refusal = 0; signals = signals r m g; next = step r m g })
    (record { refusal = tick_refusal r m g; signals = silent; next = g })

-- the generator after n calls with no register touched
unfoldable pub after : Registers → List ℕ → Generator → ℕ → Generator
after r m g zero = g
after r m g (suc n) = (tick_of r m (after r m g n)).next
