-- DEMAND 2: a screen starts exactly when document 01's limits hold; every signal, address, colour and checksum is then what its rules say; an
-- accepted write reads back as written wherever reading is allowed; what is held without effect has none, and the palette has its own; sheets
-- are read and written without change. m: the machine that the calls give from the beginning. Assumes nothing.
use Rattle.std.specs.Prelude.{ℕ, ◌+◌, ◌*◌, ◌/◌, ◌%◌, ◌≤◌, ◌<◌, Bool, true, false, cond, ◌&&◌, List, [], ◌∷◌, ◌++◌, ◌≡◌, eqb, length, get_or, set, take, drop}
use Rattle.std.specs.Int.Bits.{bit_and}
use Rattle.base.specs.Channels.{red, green, blue, joined}
use Rattle.control.specs.Control.{field, running}
use Rattle.sheet.specs.Encoding.{over, Bytes}
use Rattle.sheet.specs.Reader.{read_sheet}
use Rattle.sheet.specs.Writer.{room_written}
use Rattle.sheet.specs.declared.Sheet.{Sheet}
use Rattle.registers.specs.Map.{place_of, is_control}
use Rattle.memory.specs.Memory.{pixel_shown}
use Rattle.cursor.specs.Cursor.{code_over}
use Rattle.generator.specs.Rows.{screen, held_address, place}
use Rattle.generator.specs.Tick.{position_used, in_lines, tick_of}
use Rattle.generator.specs.Counters.{fresh}
use Rattle.generator.specs.Sound.{Rolled}
use Rattle.machine.specs.Calls.{write, read, tick}
use Rattle.machine.specs.Rules.{beginning, starts, written, answered, advanced}
use Rattle.machine.specs.Words.{byte_of}
use Rattle.machine.specs.Conditions.{Startable}
use Rattle.machine.specs.declared.Machine.{Machine}
use Rattle.demands.specs.Asked.{Asked, of, lent, picture, after_asked, after_every, answer_to, ReadsElsewhere, UntouchedEvery}
use Rattle.demands.specs.ByTheRules.{ByTheRules}

-- whether it runs
abbrev pub runs : Machine → Bool
runs m = running m.regs.control

-- what a call says of that, `before` having been said before it: an accepted control write says its bit 0, and no other call says anything
abbrev pub said_by : Bool → Machine → Asked → Bool
said_by before m (of (write address value)) = cond (eqb (written m address value).refusal 0 && is_control (place_of address)) (running value) before
said_by before m (of (read address)) = before
said_by before m (of (tick memory)) = before
said_by before m (lent memory) = before
said_by before m (picture memory buffer) = before

-- what the last accepted control write among the calls says; `before`, where there is none
abbrev pub last_said : Bool → Machine → List Asked → Bool
last_said before m [] = before
last_said before m (call ∷ rest) = last_said (said_by before m call) (after_asked m call) rest

-- two control words that agree in every bit but 2 and 5 to 9
pub record AgreeButUnused (control other : ℕ) : Type 0 where
  pub bits_0_1 : field 0 2 other ≡ field 0 2 control
  pub bits_3_4 : field 3 2 other ≡ field 3 2 control
  pub bits_10_23 : field 10 14 other ≡ field 10 14 control

-- pixel k of the machine's next tick, as the palette takes it, and the cursor's code over it
abbrev pub pixel_next : Machine → List ℕ → ℕ → ℕ
pixel_next m memory k =
    pixel_shown m.regs.control memory (place m.regs (held_address m.regs m.generator) m.generator.seen.0 k)

abbrev pub code_next : Machine → ℕ → ℕ
code_next m k =
    code_over m.regs.control (position_used m.regs) m.regs.store (4 * (in_lines m.regs m.generator.second m.generator.seen.0 % (screen m.regs).display.0) + k)
    (in_lines m.regs m.generator.second m.generator.seen.0 / (screen m.regs).display.0)

-- two palettes that agree, channel by channel, at the entries that a pixel picks under the mask
pub record AgreeAt (palette other : List ℕ) (mask pixel : ℕ) : Type 0 where
  pub reds : red (get_or other (bit_and pixel (red mask)) 0) ≡ red (get_or palette (bit_and pixel (red mask)) 0)
  pub greens : green (get_or other (bit_and pixel (green mask)) 0) ≡ green (get_or palette (bit_and pixel (green mask)) 0)
  pub blues : blue (get_or other (bit_and pixel (blue mask)) 0) ≡ blue (get_or palette (bit_and pixel (blue mask)) 0)

-- a machine with another palette, and all else as it was
abbrev pub with_palette : Machine → List ℕ → Machine
with_palette m palette =
    record {
      regs =
          record {
            params = m.regs.params;
            mask = m.regs.mask;
            control = m.regs.control;
            top = m.regs.top;
            colours = m.regs.colours;
            position = m.regs.position;
            palette = palette;
            store = m.regs.store;
          };
      generator = m.generator;
    }

-- the three checksum words as they are read; one of them is refused exactly if all are
abbrev pub checksums_read : Machine → List ℕ
checksums_read m = (answered m 0x0C0).value ∷ (answered m 0x0C1).value ∷ (answered m 0x0C2).value ∷ []

pub record Demand2 (calls : List Asked) (m : Machine) : Type 0 where
  -- it runs exactly if the last accepted control write since the beginning had bit 0 set, and is stopped if there was none
  pub running_since : runs m ≡ last_said false beginning calls
  -- so what starts and stops it is an accepted control write and nothing else
  pub running_by : (call : Asked) → runs (after_asked m call) ≡ said_by (runs m) m call
  -- a control word with bit 0 set is accepted exactly when it is in the build and the registers keep every limit under it
  pub starts_if : (value : ℕ) → running value ≡ true → Startable m value → (written m 0x060 value).refusal ≡ 0
  pub starts_only_if : (value : ℕ) → running value ≡ true → (written m 0x060 value).refusal ≡ 0 → Startable m value
  -- from 0 to 1 it begins afresh; any other write, accepted or not, leaves the generator as it was
  pub starts_fresh : (value : ℕ) → running value ≡ true → runs m ≡ false → (written m 0x060 value).refusal ≡ 0 → (written m 0x060 value).machine.generator ≡ fresh
  pub leaves : (address value : ℕ) → starts m.regs (place_of address) value ≡ false → (written m address value).machine.generator ≡ m.generator
  -- every tick that is answered is what the rules say; lent, it is the same one, and a read moves nothing
  pub ticks : (memory : List ℕ) → (advanced m memory).refusal ≡ 0 → ByTheRules m memory
  pub lent_alike :
      (memory : List ℕ) →
      ((tick_of m.regs memory m.generator).signals ≡ (advanced m memory).signals)
      × ((tick_of m.regs memory m.generator).next ≡ (advanced m memory).machine.generator)
  pub read_leaves : (address : ℕ) → (answered m address).machine ≡ m
  -- an accepted write reads back after any calls with no accepted write there
  pub reads_back :
      (a v : ℕ) (later : List Asked) → (written m a v).refusal ≡ 0 → UntouchedEvery a (written m a v).machine later →
      (answered (after_every (written m a v).machine later) a).refusal ≡ 0 → (answered (after_every (written m a v).machine later) a).value ≡ v
  -- LineStart, and bits 2 and 5 to 9 of control A, change no answer of any later call but their own reading
  pub line_start_unused :
      (v w : ℕ) → (written m 0x02C v).refusal ≡ 0 → (written m 0x02C w).refusal ≡ 0 → (later : List Asked) (call : Asked) → ReadsElsewhere 0x02C call →
      answer_to (after_every (written m 0x02C w).machine later) call ≡ answer_to (after_every (written m 0x02C v).machine later) call
  pub bits_unused :
      (v w : ℕ) → AgreeButUnused v w → (written m 0x060 v).refusal ≡ 0 → (written m 0x060 w).refusal ≡ 0 → (later : List Asked) (call : Asked) →
      ReadsElsewhere 0x060 call →
      answer_to (after_every (written m 0x060 w).machine later) call ≡ answer_to (after_every (written m 0x060 v).machine later) call
  -- an accepted palette write changes its own entry of the palette, and nothing else
  pub palette_written :
      (k v : ℕ) → k < 256 → (written m (0x100 + k) v).refusal ≡ 0 → (written m (0x100 + k) v).machine ≡ with_palette m (set m.regs.palette k v)
  -- two palettes that differ at an entry shown under a transparent cursor give ticks that differ
  pub palettes_differ :
      (palette memory : List ℕ) (k : ℕ) → k < 4 → (advanced m memory).refusal ≡ 0 → (advanced m memory).signals.blank ≡ false → code_next m k ≡ 0 →
      (AgreeAt m.regs.palette palette m.regs.mask (pixel_next m memory k) → ⊥) →
      (advanced (with_palette m palette) memory).signals ≡ (advanced m memory).signals → ⊥
  -- values written as a sheet into any room of 70 bytes or more are read back from its first 70
  pub sheet_back :
      (values room : List ℕ) → length values ≡ 14 → over values ≡ false → 70 ≤ length room →
      ◌≡◌ {A = Sheet} (read_sheet (take 70 (room_written values room))) (record { refusal = 0; values = values })
  -- and a good sheet, read and written, is the same bytes
  pub sheet_same : (sheet room : List ℕ) → Bytes sheet → (read_sheet sheet).refusal ≡ 0 → 70 ≤ length room → room_written (read_sheet sheet).values room ≡ sheet ++ drop 70 room
  -- the checksums and the address held are numbers of 24 bits; #0C0 holds the three low bytes, #0C1 the middle, #0C2 the high ones; and the three
  -- words as read tell any two machines' checksums apart
  pub rolled : Rolled m.generator
  pub checksums_read_back :
      (k : ℕ) → k < 3 → (answered m (0x0C0 + k)).refusal ≡ 0 →
      (answered m (0x0C0 + k)).value ≡ joined (byte_of k m.generator.sums.red) (byte_of k m.generator.sums.green) (byte_of k m.generator.sums.blue)
  pub checksums_apart :
      (others : List Asked) (n : Machine) → n ≡ after_every beginning others → (answered m 0x0C0).refusal ≡ 0 → (answered n 0x0C0).refusal ≡ 0 →
      checksums_read n ≡ checksums_read m → n.generator.sums ≡ m.generator.sums
