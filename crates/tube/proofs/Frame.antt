-- The script's frame: the screen in numbers, by computation, and that the machine is ready to draw it. Assumes nothing. n: whether the room is
-- interlaced.
use Prim.Native.Nat.{ℕ, ◌+◌, ◌*◌, ◌/◌, ◌≤◌, ◌<◌}
use mathlib.Core.Path.{◌≡◌, refl, sym, ◌∙◌}
use mathlib.Core.Bool.{Bool, true, false, cond, true≢false}
use mathlib.Core.List.{List}
use native.Mathlib.Omega.{arith}
use lib.ListN.{length}
use Rattle.control.specs.Control.{running, interlaced, forced_blank, transferring, increment, row_divisor, row_step, pixel_bits}
use Rattle.units.specs.Parameters
use Rattle.screen.specs.Limits
use Rattle.screen.specs.Totals
use Rattle.lines.specs.Lines
use Rattle.registers.specs.Map
use Rattle.registers.specs.File
use Rattle.registers.specs.declared.Registers.{Registers}
use Rattle.generator.specs.Rows
use Rattle.generator.specs.declared.Generator.{Generator}
use Rattle.machine.specs.Access
use Rattle.machine.specs.Rules
use Rattle.machine.specs.declared.Machine.{Machine}
use Rattle.frame.specs.Frame
use Rattle.frame.specs.Demand
use Rattle.demands.specs.Demand3.{Begins}
use Rattle.calls.specs.Calls.{size_of}
use Rattle.audiogram.specs.Places.{fields, place_in}
use Rattle.audiogram.specs.Picture.{size}
use Rattle.scribe.specs.Ending.{picture_bytes}
use Rattle.tube.specs.Started.{started}
use Rattle.tube.specs.Shown.{frame_run}

-- the screen that the script sets, in numbers
pub record Numbers (n : Bool) (r : Registers) : Type 0 where
  pub ticks : Totals.frame_ticks (Rows.screen r) ≡ frame_run n
  pub bytes : 3 * Totals.frame_pixels (Rows.screen r) ≡ picture_bytes n
  pub format : (Rows.screen r).interlaced ≡ n
  pub word : interlaced r.control ≡ n
  pub width : 4 * (Rows.screen r).display.0 ≡ 640
  pub row : Demand.row_pixels r ≡ 4096
  pub step : row_step r.control ≡ fields n
  pub addresses : increment r.control ≡ fields n
  pub bits : pixel_bits r.control ≡ 2
  pub runs : running r.control ≡ true
  pub transfers : transferring r.control ≡ true
  pub unblanked : forced_blank r.control ≡ false

pub started_numbers : (n : Bool) → Numbers n (started n).regs
unfolding started Parameters.screen_of Limits.later_limit Limits.limit_of Map.place_of File.zeros File.value_in File.store_in Access.start_limit Access.write_refusal Rules.stored Rules.written increment row_divisor
started_numbers false =
    record { ticks = refl; bytes = refl; format = refl; word = refl; width = refl; row = refl; step = refl; addresses = refl; bits = refl; runs = refl; transfers = refl; unblanked = refl }
started_numbers true =
    record { ticks = refl; bytes = refl; format = refl; word = refl; width = refl; row = refl; step = refl; addresses = refl; bits = refl; runs = refl; transfers = refl; unblanked = refl }

-- and of one field: its first address and row, its pixels and transfers, and what a half line before its first pixel lacks
pub record FieldNumbers (n second : Bool) (r : Registers) : Type 0 where
  pub address : Demand.first_address r second ≡ cond second 1 0
  pub row : Rows.row_number r (Demand.first_address r second) ≡ cond second 1 0
  pub pixels : Frame.pixels_seen r second ≡ cond n (cond second 153968 153872) 307200
  pub transfers : Demand.transfers_seen r second ≡ cond n 38 75
  pub lead : 4 * Lines.lead (Parameters.in_field second (Rows.screen r)) ≡ cond second 272 0

pub field_numbers : (n second : Bool) → (second ≡ true → n ≡ true) → FieldNumbers n second (started n).regs
unfolding started Parameters.screen_of Limits.later_limit Limits.limit_of Map.place_of File.zeros File.value_in File.store_in Access.start_limit Access.write_refusal Rules.stored Rules.written increment row_divisor Lines.line_from Lines.line_of Lines.second_half Lines.in_line Lines.lead Lines.column_of Lines.lines_above Lines.field_visible
field_numbers false false of = record { address = refl; row = refl; pixels = refl; transfers = refl; lead = refl }
field_numbers false true of = absurd (true≢false (sym (of refl)))
field_numbers true false of = record { address = refl; row = refl; pixels = refl; transfers = refl; lead = refl }
field_numbers true true of = record { address = refl; row = refl; pixels = refl; transfers = refl; lead = refl }

-- the size of its picture
pub size_there : (n : Bool) (g : Generator) → size_of (record { regs = (started n).regs; generator = g }) ≡ record { width = 640; height = cond n 482 480; half = cond n 272 0 }
unfolding started Parameters.screen_of Limits.later_limit Limits.limit_of Map.place_of File.zeros File.value_in File.store_in Access.start_limit Access.write_refusal Rules.stored Rules.written Lines.line_from Lines.line_of Lines.second_half Lines.in_line Lines.lead Lines.column_of Lines.lines_above Lines.field_visible
size_there false g = refl
size_there true g = refl

pub started_start : (n : Bool) → Frame.AtStart (started n).generator
unfolding started Parameters.screen_of Limits.later_limit Limits.limit_of Map.place_of File.zeros File.value_in File.store_in Access.start_limit Access.write_refusal Rules.stored Rules.written
started_start false = record { field = refl; half = refl; at = refl }
started_start true = record { field = refl; half = refl; at = refl }

-- ---- ready for a frame

-- where pixel i of a field lies
abbrev pub placed : Bool → Bool → ℕ → ℕ
placed n second i = place_in n (cond second 1 0) i

module _ (n second : Bool) (of : second ≡ true → n ≡ true) where
  pub field_placed : (i : ℕ) → Demand.field_place (started n).regs second i ≡ placed n second i
  unfolding Demand.field_place
  field_placed i = rw ((field_numbers n second of).row, (started_numbers n).step, (started_numbers n).row) (omega arith)

  pub placed_inside : (i : ℕ) → i < Frame.pixels_seen (started n).regs second → placed n second i < 4 * size n
  placed_inside i h = go n second of (rw (field_numbers n second of).pixels at h)
    where
      go : (k s : Bool) → (s ≡ true → k ≡ true) → i < cond k (cond s 153968 153872) 307200 → placed k s i < 4 * size k
      go false false o l = omega arith
      go false true o l = absurd (true≢false (sym (o refl)))
      go true false o l = let few : i / 4096 ≤ 37 = omega arith in omega (arith, few)
      go true true o l = let few : i / 4096 ≤ 37 = omega arith in omega (arith, few)

  few_addresses : (j : ℕ) → j < Demand.transfers_seen (started n).regs second → Demand.first_address (started n).regs second + j * increment (started n).regs.control ≤ 0xFFFFFF
  few_addresses j h = rw ((field_numbers n second of).address, (started_numbers n).addresses) (go n second (rw (field_numbers n second of).transfers at h))
    where
      go : (k s : Bool) → j < cond k 38 75 → cond s 1 0 + j * fields k ≤ 0xFFFFFF
      go false false l = omega arith
      go false true l = omega arith
      go true false l = omega arith
      go true true l = omega arith

-- a machine with the script's registers, at a frame's start
module _ (n : Bool) (memory : List ℕ) (room : size n ≤ length memory) (m : Machine) (same : m.regs ≡ (started n).regs) (start : Frame.AtStart m.generator) where
  of_format : (second : Bool) → Frame.FieldOf (started n).regs second → second ≡ true → n ≡ true
  of_format second of e = sym (started_numbers n).format ∙ of e

  pub begins_there : Begins m memory
  begins_there =
      record {
        running_now = rw same (started_numbers n).runs;
        at_start = start;
        transferring_now = rw same (started_numbers n).transfers;
        unblanked = rw same (started_numbers n).unblanked;
        room = rw same (λ second i of h. rw (field_placed n second (of_format second of) i, (started_numbers n).bits) (omega (arith, placed_inside n second (of_format second of) i h, room)));
        unrolled = rw same (λ second j of h. few_addresses n second (of_format second of) j h);
      }
