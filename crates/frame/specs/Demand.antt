-- Demand 3: what a frame comes to, counted over the answers of its own ticks. r: the registers, m: the picture memory, g: the generator
-- at the frame's start. Assumes nothing.
use Rattle.std.specs.Prelude.{ℕ, ◌+◌, ◌*◌, ◌/◌, ◌%◌, ◌<◌, ◌≤◌, Bool, true, false, not, cond, List, [], ◌∷◌, ◌≡◌, length}
use Rattle.base.specs.Count.{count, run}
use Rattle.control.specs.Control.{running, forced_blank, transferring, increment, offset, row_step, pixel_bits}
use Rattle.units.specs.Parameters.{in_field, row_length}
use Rattle.screen.specs.Totals.{frame_ticks, frame_visible, field_transfers, frame_transfers}
use Rattle.screen.specs.declared.totals.Totals.{Totals}
use Rattle.registers.specs.declared.Registers.{Registers}
use Rattle.signals.specs.declared.Dot.{Dot}
use Rattle.pixel.specs.Dot.{dot_at}
use Rattle.lines.specs.Lines.{lead}
use Rattle.generator.specs.Rows.{screen, held_address, row_number, place}
use Rattle.generator.specs.Tick.{position_used, tick_of, after}
use Rattle.generator.specs.Sound.{Sound}
use Rattle.generator.specs.declared.Generator.{Generator}
use Rattle.generator.specs.declared.Ticked.{Ticked}
use Rattle.frame.specs.Gather.{gathered}
use Rattle.frame.specs.Frame.{AtStart, FieldOf, in_fields, drawn, pixels_seen, frame_end}

-- what tick k answers, registers untouched
abbrev pub answer : Registers → List ℕ → Generator → ℕ → Ticked
answer r m g k = tick_of r m (after r m g k)

-- it says that it is not blank
abbrev pub is_shown : Registers → List ℕ → Generator → ℕ → Bool
is_shown r m g k = not (answer r m g k).signals.blank

-- it answers an address
abbrev pub is_transfer : Registers → List ℕ → Generator → ℕ → Bool
is_transfer r m g k = (answer r m g k).signals.transfer

-- the addresses answered in the first n ticks, in tick order
abbrev pub addresses_answered : Registers → List ℕ → Generator → ℕ → List ℕ
addresses_answered r m g n = gathered (is_transfer r m g) (λ k. (answer r m g k).signals.address ∷ []) n

-- the four places of each tick shown among the first n, joined in tick order
abbrev pub places_shown : Registers → List ℕ → Generator → ℕ → List ℕ
places_shown r m g n =
    gathered (is_shown r m g) (λ k. run (place r (held_address r (after r m g k)) (after r m g k).seen.0) 0 4) n

-- the first address of a field, where it does not roll past #FFFFFF; and the field's transfers
abbrev pub first_address : Registers → Bool → ℕ
first_address r second = r.top + cond second (offset r.control) 0

abbrev pub transfers_seen : Registers → Bool → ℕ
transfers_seen r second = field_transfers (in_field second (screen r))

-- the addresses of its rows, one increment each
abbrev pub addresses_of : Registers → Bool → List ℕ
addresses_of r second = run (λ j. first_address r second + j * increment r.control) 0 (transfers_seen r second)

-- the pixels of a row
abbrev pub row_pixels : Registers → ℕ
row_pixels r = 4 * row_length (screen r)

-- the place that a frame begins with
abbrev pub first_place : Registers → ℕ
first_place r = row_number r r.top * row_pixels r

-- the place of pixel i of a field: its rows follow one another, or, interlaced and but for code 00, leave one out each time
unfoldable pub field_place : Registers → Bool → ℕ → ℕ
field_place r second i = (row_number r (first_address r second) + i / row_pixels r * row_step r.control) * row_pixels r + i % row_pixels r

abbrev pub places_of : Registers → Bool → List ℕ
places_of r second = run (field_place r second) 0 (pixels_seen r second)

-- pixel i of a field among the Display pixels of its lines: where VDisplay begins with a second half, the lead stood before it
abbrev pub in_lines_of : Registers → Bool → ℕ → ℕ
in_lines_of r second i = i + 4 * lead (in_field second (screen r))

-- its colour, in its column and on its line
unfoldable pub field_dot : Registers → Bool → List ℕ → ℕ → Dot
field_dot r second m i =
    dot_at r (position_used r) m (field_place r second i)
    (in_lines_of r second i % (4 * (screen r).display.0))
    (in_lines_of r second i / (4 * (screen r).display.0))

-- a frame about to start: running, transfers on, not forced blank, memory for each of its pixels, and no row address past #FFFFFF in a field
pub record Ready (r : Registers) (m : List ℕ) (g : Generator) : Type 0 where
  pub sound : Sound r g
  pub runs : running r.control ≡ true
  pub start : AtStart g
  pub transfers : transferring r.control ≡ true
  pub unblanked : forced_blank r.control ≡ false
  pub room : (second : Bool) (i : ℕ) → FieldOf r second → i < pixels_seen r second → (field_place r second i + 1) * pixel_bits r.control ≤ 8 * length m
  pub unrolled : (second : Bool) (j : ℕ) → FieldOf r second → j < transfers_seen r second → first_address r second + j * increment r.control ≤ 0xFFFFFF

-- the frame's ticks are all answered; it is back at its start after exactly its ticks; its visible ticks and transfers are counted, its
-- addresses and places listed field by field, its pixels told one by one, and the generator after it
pub record Demand3 (r : Registers) (m : List ℕ) (g : Generator) : Type 0 where
  pub unrefused : (k : ℕ) → k < frame_ticks (screen r) → (answer r m g k).refusal ≡ 0
  pub some : 0 < frame_ticks (screen r)
  pub returns : AtStart (after r m g (frame_ticks (screen r)))
  pub not_before : (k : ℕ) → 0 < k → k < frame_ticks (screen r) → AtStart (after r m g k) → ⊥
  pub visible : count (is_shown r m g) (frame_ticks (screen r)) ≡ frame_visible (screen r)
  pub transfers : count (is_transfer r m g) (frame_ticks (screen r)) ≡ frame_transfers (screen r)
  pub addresses : addresses_answered r m g (frame_ticks (screen r)) ≡ in_fields r (addresses_of r)
  pub places : places_shown r m g (frame_ticks (screen r)) ≡ in_fields r (places_of r)
  pub dots : drawn r m g (frame_ticks (screen r)) ≡ in_fields r (λ second. run (field_dot r second m) 0 (pixels_seen r second))
  pub end : after r m g (frame_ticks (screen r)) ≡ frame_end r m

-- four totals that are the frame's own counts
pub record Counted (r : Registers) (m : List ℕ) (g : Generator) (t : Totals) : Type 0 where
  pub refusal : t.refusal ≡ 0
  pub some : 0 < t.ticks.0
  pub returns : AtStart (after r m g t.ticks.0)
  pub not_before : (k : ℕ) → 0 < k → k < t.ticks.0 → AtStart (after r m g k) → ⊥
  pub visible : count (is_shown r m g) t.ticks.0 ≡ t.visible.0
  pub transfers : count (is_transfer r m g) t.ticks.0 ≡ t.transfers
  pub pixels : length (drawn r m g t.ticks.0) ≡ t.pixels.0
