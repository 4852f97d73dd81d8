-- DEMAND 3: a started screen's frame, ticked with one fixed picture memory and no register touched, and the picture drawn at once. m: the
-- machine at the frame's start. Assumes nothing.
use Rattle.std.specs.Prelude.{ℕ, ◌+◌, ◌*◌, ◌/◌, ◌≤◌, ◌<◌, Bool, true, false, not, cond, List, [], ◌∷◌, ◌≡◌, length}
use Rattle.base.specs.Count.{count, run}
use Rattle.control.specs.Control.{interlaced, forced_blank, transferring, increment_code, increment, pixel_bits}
use Rattle.units.specs.Parameters.{field_ticks, row_length}
use Rattle.screen.specs.Totals.{frame_ticks, frame_visible, rounded_up, frame_transfers, frame_pixels}
use Rattle.signals.specs.Signals.{colours_of}
use Rattle.signals.specs.declared.Dot.{Dot}
use Rattle.pixel.specs.Sums.{none, summed}
use Rattle.generator.specs.Rows.{screen, held_address, place}
use Rattle.machine.specs.Rules.{beginning, answered, advanced}
use Rattle.machine.specs.declared.Machine.{Machine}
use Rattle.machine.specs.declared.Advanced.{Advanced}
use Rattle.frame.specs.Gather.{gathered}
use Rattle.frame.specs.Frame.{AtField, AtStart, FieldOf, in_fields, pixels_seen}
use Rattle.frame.specs.Demand.{first_address, transfers_seen, addresses_of, row_pixels, first_place, field_place, places_of, field_dot}
use Rattle.picture.specs.Picture.{buffer_of}
use Rattle.picture.specs.Span.{bytes_of}
use Rattle.picture.specs.Machines.{ticked, pictured}
use Rattle.demands.specs.Asked.{Asked, after_every}
use Rattle.demands.specs.Demand2.{runs}

-- what tick k answers, counted from 0
abbrev pub answer : Machine → List ℕ → ℕ → Advanced
answer m memory k = advanced (ticked m memory k) memory

-- it says that it is not blank, or answers an address
abbrev pub shows : Machine → List ℕ → ℕ → Bool
shows m memory k = not (answer m memory k).signals.blank

abbrev pub transfers : Machine → List ℕ → ℕ → Bool
transfers m memory k = (answer m memory k).signals.transfer

-- the addresses answered in the first n ticks, and the pixels of those that are not blank, in tick order
abbrev pub addresses : Machine → List ℕ → ℕ → List ℕ
addresses m memory n = gathered (transfers m memory) (λ k. (answer m memory k).signals.address ∷ []) n

abbrev pub dots_shown : Machine → List ℕ → ℕ → List Dot
dots_shown m memory n = gathered (shows m memory) (λ k. (answer m memory k).signals.dots) n

-- the picture places of these pixels, four to a tick: by the rule of the generator's ticks, since no answer names a place
abbrev pub places : Machine → List ℕ → ℕ → List ℕ
places m memory n =
    gathered (shows m memory)
    (λ k. run (place m.regs (held_address m.regs (ticked m memory k).generator) (ticked m memory k).generator.seen.0) 0 4) n

-- the ticks of the frame before a field, the machine then, and the ticks of a field
abbrev pub ticks_before : Machine → Bool → ℕ
ticks_before m second = cond second (field_ticks (screen m.regs)) 0

abbrev pub at_field : Machine → List ℕ → Bool → Machine
at_field m memory second = ticked m memory (ticks_before m second)

abbrev pub ticks_in : Machine → ℕ
ticks_in m = field_ticks (screen m.regs)

-- started, transfers on, not forced blank, at a frame's start, memory for each of its pixels, and no row address past #FFFFFF in a field
pub record Begins (m : Machine) (memory : List ℕ) : Type 0 where
  pub running_now : runs m ≡ true
  pub at_start : AtStart m.generator
  pub transferring_now : transferring m.regs.control ≡ true
  pub unblanked : forced_blank m.regs.control ≡ false
  pub room :
      (second : Bool) (i : ℕ) → FieldOf m.regs second → i < pixels_seen m.regs second →
      (field_place m.regs second i + 1) * pixel_bits m.regs.control ≤ 8 * length memory
  pub unrolled :
      (second : Bool) (j : ℕ) → FieldOf m.regs second → j < transfers_seen m.regs second →
      first_address m.regs second + j * increment m.regs.control ≤ 0xFFFFFF

pub record Demand3 (m : Machine) (memory : List ℕ) : Type 0 where
  -- every tick of the frame is answered; it takes exactly so many ticks, and fewer never come back to its start, which a second field's is not
  pub unrefused : (k : ℕ) → k < frame_ticks (screen m.regs) → (answer m memory k).refusal ≡ 0
  pub some : 0 < frame_ticks (screen m.regs)
  pub returns : AtStart (ticked m memory (frame_ticks (screen m.regs))).generator
  pub not_before : (k : ℕ) → 0 < k → k < frame_ticks (screen m.regs) → AtStart (ticked m memory k).generator → ⊥
  pub fields : (second : Bool) → FieldOf m.regs second → AtField second (at_field m memory second).generator
  -- exactly Display x displayed lines are visible; transfers are a field's visible ticks over the row length, rounded up, and with one field the
  -- frame's; they go from each field's top on, one increment each
  pub visible : count (shows m memory) (frame_ticks (screen m.regs)) ≡ frame_visible (screen m.regs)
  pub transferred : count (transfers m memory) (frame_ticks (screen m.regs)) ≡ frame_transfers (screen m.regs)
  pub transferred_plain :
      interlaced m.regs.control ≡ false →
      count (transfers m memory) (frame_ticks (screen m.regs)) ≡ rounded_up (frame_visible (screen m.regs)) (row_length (screen m.regs))
  pub transferred_in : (second : Bool) → FieldOf m.regs second → count (transfers (at_field m memory second) memory) (ticks_in m) ≡ transfers_seen m.regs second
  pub addressed : (second : Bool) → FieldOf m.regs second → addresses (at_field m memory second) memory (ticks_in m) ≡ addresses_of m.regs second
  -- the picture places that a field shows: one by one within a row, and rising from row to row
  pub placed : (second : Bool) → FieldOf m.regs second → places (at_field m memory second) memory (ticks_in m) ≡ places_of m.regs second
  pub placed_next :
      (second : Bool) (i : ℕ) → (i + 1) / row_pixels m.regs ≡ i / row_pixels m.regs →
      field_place m.regs second (i + 1) ≡ field_place m.regs second i + 1
  pub placed_rises : (second : Bool) (i j : ℕ) → i < j → field_place m.regs second i < field_place m.regs second j
  -- not interlaced, each place is shown once, one after the other; interlaced, none is shown in both fields, but for code 00
  pub placed_plain : interlaced m.regs.control ≡ false → (i : ℕ) → field_place m.regs false i ≡ first_place m.regs + i
  pub placed_apart :
      interlaced m.regs.control ≡ true → (increment_code m.regs.control ≡ 0 → ⊥) → (i j : ℕ) →
      field_place m.regs false i ≡ field_place m.regs true j → ⊥
  -- and pixel i of a field's put out has the colour of place i of these, on the line and in the column where it goes out; the frame has both
  pub coloured :
      (second : Bool) → FieldOf m.regs second →
      dots_shown (at_field m memory second) memory (ticks_in m) ≡ run (field_dot m.regs second memory) 0 (pixels_seen m.regs second)
  pub coloured_frame : dots_shown m memory (frame_ticks (screen m.regs)) ≡ in_fields m.regs (λ second. dots_shown (at_field m memory second) memory (ticks_in m))
  -- the checksums that a field leaves are the sums of all its colours, from nothing
  pub summed_up :
      (second : Bool) → FieldOf m.regs second →
      (ticked m memory (ticks_before m second + ticks_in m)).generator.sums ≡ summed none (colours_of (dots_shown (at_field m memory second) memory (ticks_in m)))
  -- the picture into a buffer of the right length is not refused, and has the ticks' colours, checksums and end state
  pub pictured_now : (buffer : List ℕ) → length buffer ≡ 3 * frame_pixels (screen m.regs) → (pictured m memory (length buffer)).refusal ≡ 0
  pub pictured_bytes :
      (buffer : List ℕ) → length buffer ≡ 3 * frame_pixels (screen m.regs) →
      buffer_of m.regs memory m.generator buffer ≡ bytes_of (colours_of (dots_shown m memory (frame_ticks (screen m.regs))))
  pub pictured_machine :
      (buffer : List ℕ) → length buffer ≡ 3 * frame_pixels (screen m.regs) →
      (pictured m memory (length buffer)).machine ≡ ticked m memory (frame_ticks (screen m.regs))
  pub pictured_reads :
      (buffer : List ℕ) → length buffer ≡ 3 * frame_pixels (screen m.regs) → (address : ℕ) →
      answered (pictured m memory (length buffer)).machine address ≡ answered (ticked m memory (frame_ticks (screen m.regs))) address
  -- the three checksum words can be read after a field's ticks, the next being the first of PreEqualise; so they can after the picture
  pub checksums_answered :
      (second : Bool) → FieldOf m.regs second → (k : ℕ) → k < 3 →
      (answered (ticked m memory (ticks_before m second + ticks_in m)) (0x0C0 + k)).refusal ≡ 0
  -- and the frame's end does not depend on the generator that it began with
  pub same_end :
      (calls : List Asked) (n : Machine) → n ≡ after_every beginning calls → n.regs ≡ m.regs → Begins n memory →
      ticked n memory (frame_ticks (screen m.regs)) ≡ ticked m memory (frame_ticks (screen m.regs))
  -- so the second frame leaves what the first left
  pub second_frame : ticked m memory (frame_ticks (screen m.regs) + frame_ticks (screen m.regs)) ≡ ticked m memory (frame_ticks (screen m.regs))
