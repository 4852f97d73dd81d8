-- DEMAND 1: every call ends with an answer; bad input is refused by document 01's number, the first in its order; a refused call leaves the
-- machine and all lent memory as they were, and answers 0 for all else. m: the machine, any one; the calls without a machine have a record
-- of their own. Assumes nothing.
-- That a call ends, and that memory lent for reading only (`&[u8]`) stays as it was, the language sees to: no other function passes its checker.
use Rattle.std.specs.Prelude.{ℕ, ◌+◌, ◌*◌, ◌^◌, Bool, false, not, cond, ◌&&◌, ◌||◌, List, [], ◌∷◌, ◌≡◌, ltb, eqb, length, get_or, drop, replicate}
use Rattle.control.specs.Control.{running, interlaced}
use Rattle.units.specs.Parameters.{screen_of}
use Rattle.units.specs.declared.Screen.{Screen}
use Rattle.screen.specs.Range.{refuses10}
use Rattle.screen.specs.Limits.{refuses11, refuses12, refuses13, refuses14, refuses15, refuses16, refuses17, refuses18}
use Rattle.screen.specs.Totals.{frame_ticks, refused, totals_of}
use Rattle.sheet.specs.Encoding.{tags, over}
use Rattle.sheet.specs.Reader.{pair, read_sheet}
use Rattle.sheet.specs.Writer.{write_refusal, room_written}
use Rattle.sheet.specs.Field.{field_of}
use Rattle.vault.specs.Compare.{compared}
use Rattle.station.specs.Number.{checksums_number, field_number}
use Rattle.registers.specs.Map.{place_of, is_control, is_reserved}
use Rattle.signals.specs.Signals.{silent}
use Rattle.generator.specs.Rows.{screen_under, screen}
use Rattle.generator.specs.Tick.{refuses20, tick_of}
use Rattle.machine.specs.Access.{write_refuses2, write_refuses1, refuses3, write_refuses4}
use Rattle.machine.specs.Rules.{written, refuses5, answered, advanced}
use Rattle.machine.specs.declared.Machine.{Machine}
use Rattle.frame.specs.Frame.{refused_within}
use Rattle.picture.specs.Picture.{refuses22, refuses21, buffer_of}
use Rattle.picture.specs.Machines.{pictured}

-- a refusal: whether it holds, and its number
pub record Refusal : Type 0 where
  pub holds : Bool
  pub number : ℕ

abbrev pub when : Bool → ℕ → Refusal
when holds number = record { holds = holds; number = number }

-- the first that holds, in their order; 0 if none does
abbrev pub first_of : List Refusal → ℕ
first_of [] = 0
first_of (r ∷ later) = cond r.holds r.number (first_of later)

-- a write: 2, 1, 3, 4; then, of a control word with bit 0 set, 10 to 18 as that word stands
abbrev pub limits_checked : ℕ → ℕ → Bool
limits_checked address value = is_control (place_of address) && running value

abbrev pub write_order : Machine → ℕ → ℕ → List Refusal
write_order m address value =
    when (write_refuses2 (place_of address)) 2 ∷
    when (write_refuses1 (place_of address) value) 1 ∷
    when (refuses3 m.regs (place_of address)) 3 ∷
    when (write_refuses4 m.regs (place_of address) value) 4 ∷
    when (limits_checked address value && refuses10 (screen_under m.regs value)) 10 ∷
    when (limits_checked address value && refuses11 (screen_under m.regs value)) 11 ∷
    when (limits_checked address value && refuses12 (screen_under m.regs value)) 12 ∷
    when (limits_checked address value && refuses13 (screen_under m.regs value)) 13 ∷
    when (limits_checked address value && refuses14 (screen_under m.regs value)) 14 ∷
    when (limits_checked address value && refuses15 value (screen_under m.regs value)) 15 ∷
    when (limits_checked address value && refuses16 (screen_under m.regs value)) 16 ∷
    when (limits_checked address value && refuses17 (screen_under m.regs value)) 17 ∷
    when (limits_checked address value && refuses18 (screen_under m.regs value)) 18 ∷
    []

-- a read: 2, 3, 5; a tick: 23, 20; a picture: 22, 21, 20
abbrev pub read_order : Machine → ℕ → List Refusal
read_order m address = when (is_reserved (place_of address)) 2 ∷ when (refuses3 m.regs (place_of address)) 3 ∷ when (refuses5 m (place_of address)) 5 ∷ []

abbrev pub tick_order : Machine → List ℕ → List Refusal
tick_order m memory = when (not (running m.regs.control)) 23 ∷ when (refuses20 m.regs memory m.generator) 20 ∷ []

abbrev pub picture_order : Machine → List ℕ → ℕ → List Refusal
picture_order m memory size =
    when (refuses22 m.regs m.generator) 22 ∷
    when (refuses21 m.regs size) 21 ∷
    when (refused_within m.regs memory m.generator (frame_ticks (screen m.regs))) 20 ∷
    []

pub record Demand1 (m : Machine) : Type 0 where
  pub write : (address value : ℕ) → (written m address value).refusal ≡ first_of (write_order m address value)
  pub write_refused : (address value : ℕ) → ((written m address value).refusal ≡ 0 → ⊥) → (written m address value).machine ≡ m
  pub read : (address : ℕ) → (answered m address).refusal ≡ first_of (read_order m address)
  pub read_refused : (address : ℕ) → ((answered m address).refusal ≡ 0 → ⊥) → ((answered m address).machine ≡ m) × ((answered m address).value ≡ 0)
  pub tick : (memory : List ℕ) → (advanced m memory).refusal ≡ first_of (tick_order m memory)
  pub tick_refused : (memory : List ℕ) → ((advanced m memory).refusal ≡ 0 → ⊥) → ((advanced m memory).machine ≡ m) × ((advanced m memory).signals ≡ silent)
  -- the tick with its record lent answers what the tick by value does, and leaves in the record what that hands back
  pub lent : (memory : List ℕ) → (tick_of m.regs memory m.generator).refusal ≡ first_of (tick_order m memory)
  pub lent_refused :
      (memory : List ℕ) → ((tick_of m.regs memory m.generator).refusal ≡ 0 → ⊥) →
      ((tick_of m.regs memory m.generator).next ≡ m.generator) × ((tick_of m.regs memory m.generator).signals ≡ silent)
  pub picture : (memory : List ℕ) (size : ℕ) → (pictured m memory size).refusal ≡ first_of (picture_order m memory size)
  pub picture_refused :
      (memory buffer : List ℕ) → ((pictured m memory (length buffer)).refusal ≡ 0 → ⊥) →
      ((pictured m memory (length buffer)).machine ≡ m) × (buffer_of m.regs memory m.generator buffer ≡ buffer)

-- ---- the calls without a machine

-- a sheet is read left to right. At each field due: 30 if fewer than three bytes are left, 31, 32, then 30 if fewer than two are left past those
-- three; 33 after the last field
abbrev pub sheet_order : List ℕ → List ℕ → List Refusal
sheet_order [] left = when (not (eqb (length left) 0)) 33 ∷ []
sheet_order (tag ∷ due) left =
    when (ltb (length left) 3) 30 ∷
    when (not (eqb (get_or left 0 0) tag)) 31 ∷
    when (not (eqb (pair left 1) 2)) 32 ∷
    when (ltb (length (drop 3 left)) 2) 30 ∷
    sheet_order due (drop 5 left)

-- a sheet is written: 34, 35; one field by its tag: 31 for a tag outside first, then the sheet's own; two checksums to compare: 24 for either
abbrev pub sheet_write_order : List ℕ → List ℕ → List Refusal
sheet_write_order values room = when (over values) 34 ∷ when (ltb (length room) 70) 35 ∷ []

abbrev pub field_order : List ℕ → ℕ → List Refusal
field_order sheet tag = when (ltb tag 0x21 || ltb 0x2E tag) 31 ∷ sheet_order tags sheet

abbrev pub compare_order : List ℕ → List ℕ → List Refusal
compare_order a b = when (not (eqb (length a) 9)) 24 ∷ when (not (eqb (length b) 9)) 24 ∷ []

-- a screen's totals: 10 to 18
abbrev pub totals_order : ℕ → Screen → List Refusal
totals_order control s =
    when (refuses10 s) 10 ∷
    when (refuses11 s) 11 ∷
    when (refuses12 s) 12 ∷
    when (refuses13 s) 13 ∷
    when (refuses14 s) 14 ∷
    when (refuses15 control s) 15 ∷
    when (refuses16 s) 16 ∷
    when (refuses17 s) 17 ∷
    when (refuses18 s) 18 ∷
    []

pub record Paper : Type 0 where
  pub sheet : (sheet : List ℕ) → (read_sheet sheet).refusal ≡ first_of (sheet_order tags sheet)
  pub sheet_refused : (sheet : List ℕ) → ((read_sheet sheet).refusal ≡ 0 → ⊥) → (read_sheet sheet).values ≡ replicate 14 0
  -- refused, the room lent for a sheet is byte for byte as it was
  pub sheet_written : (values room : List ℕ) → write_refusal values room ≡ first_of (sheet_write_order values room)
  pub sheet_write_refused : (values room : List ℕ) → (write_refusal values room ≡ 0 → ⊥) → room_written values room ≡ room
  pub field : (sheet : List ℕ) (tag : ℕ) → (field_of sheet tag).refusal ≡ first_of (field_order sheet tag)
  pub field_refused : (sheet : List ℕ) (tag : ℕ) → ((field_of sheet tag).refusal ≡ 0 → ⊥) → (field_of sheet tag).value ≡ 0
  pub compare : (a b : List ℕ) → (compared a b).refusal ≡ first_of (compare_order a b)
  pub compare_refused : (a b : List ℕ) → ((compared a b).refusal ≡ 0 → ⊥) → (compared a b).equal ≡ false
  -- the two as the host's program in C is answered: the refusal in bits 63 to 32, the rest below
  pub host_field : (sheet : List ℕ) (tag : ℕ) → field_number sheet tag ≡ first_of (field_order sheet tag) * 2 ^ 32 + (field_of sheet tag).value
  pub host_compare : (a b : List ℕ) → checksums_number a b ≡ first_of (compare_order a b) * 2 ^ 32 + cond (compared a b).equal 1 0
  -- what one frame of a screen comes to; `refused` has 0 for all else
  pub totals : (control : ℕ) (params : List ℕ) → (totals_of control params).refusal ≡ first_of (totals_order control (screen_of params (interlaced control)))
  pub totals_refused :
      (control : ℕ) (params : List ℕ) → ((totals_of control params).refusal ≡ 0 → ⊥) → totals_of control params ≡ refused (totals_of control params).refusal
