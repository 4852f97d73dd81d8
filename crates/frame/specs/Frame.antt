-- A whole frame of one field or two: what its ticks give, and the same in closed form. r: the registers, m: the picture memory, g: the generator
-- at its start, second: which field.
-- Assumes nothing.
use Rattle.std.specs.Prelude.{ℕ, ◌+◌, ◌-◌, ◌*◌, ◌/◌, ◌%◌, ◌^◌, Bool, true, false, not, cond, ◌&&◌, ◌||◌, List, [], ◌++◌, ◌≡◌, ltb, eqb}
use Rattle.base.specs.Count.{some, run}
use Rattle.control.specs.Control.{forced_blank, transferring, increment, pixel_bits}
use Rattle.units.specs.Parameters.{in_field, row_length}
use Rattle.screen.specs.Totals.{frame_ticks}
use Rattle.lines.specs.Lines.{field_visible}
use Rattle.registers.specs.declared.Registers.{Registers}
use Rattle.memory.specs.Memory.{ends_beyond}
use Rattle.signals.specs.Signals.{black, colours_of}
use Rattle.pixel.specs.Sums.{none, summed}
use Rattle.signals.specs.declared.Dot.{Dot}
use Rattle.pixel.specs.declared.Sums.{Sums}
use Rattle.generator.specs.Rows.{screen, visible_at, top_used, place, asks}
use Rattle.generator.specs.Tick.{dot_of, tick_of, after}
use Rattle.generator.specs.declared.Generator.{Generator}
use Rattle.frame.specs.Gather.{gathered}

-- before the first tick of a field, the first or the second; and of a frame, which is its first field's
pub record AtField (second : Bool) (g : Generator) : Type 0 where
  pub field : g.second ≡ second
  pub half : g.half.0 ≡ 0
  pub at : g.at.0 ≡ 0

abbrev pub AtStart : Generator → Type 0
AtStart g = AtField false g

-- a field of the frame: the first, or the second of an interlaced one
abbrev pub FieldOf : Registers → Bool → Type 0
FieldOf r second = second ≡ true → (screen r).interlaced ≡ true

-- the first field's, and then the second's of an interlaced frame
abbrev pub in_fields : {A : Type 0} → Registers → (Bool → List A) → List A
in_fields r list = list false ++ cond (screen r).interlaced (list true) []

-- ---- what the ticks give

-- the four pixels of each visible tick among the first n, joined
abbrev pub drawn : Registers → List ℕ → Generator → ℕ → List Dot
drawn r m g n = gathered (λ k. visible_at r (after r m g k)) (λ k. (tick_of r m (after r m g k)).signals.dots) n

-- one of the first n ticks is refused by 20
unfoldable pub refused_within : Registers → List ℕ → Generator → ℕ → Bool
refused_within r m g n = some (λ k. eqb (tick_of r m (after r m g k)).refusal 20) n

-- ---- the same in closed form

-- the visible ticks and pixels of a field
abbrev pub ticks_seen : Registers → Bool → ℕ
ticks_seen r second = field_visible (in_field second (screen r))

abbrev pub pixels_seen : Registers → Bool → ℕ
pixels_seen r second = 4 * ticks_seen r second

-- the address of row j of a field
unfoldable pub row_address : Registers → Bool → ℕ → ℕ
row_address r second j = (top_used r second + j * increment r.control) % 2 ^ 24

-- visible tick v stands in row v / R
abbrev pub address_at : Registers → Bool → ℕ → ℕ
address_at r second v = row_address r second (v / row_length (screen r))

-- the place and the colour of a field's visible pixel i, four to a visible tick
unfoldable pub place_at : Registers → Bool → ℕ → ℕ
place_at r second i = place r (address_at r second (i / 4)) (i / 4) (i % 4)

unfoldable pub dot_for : Registers → Bool → List ℕ → ℕ → Dot
dot_for r second m i = cond (forced_blank r.control) black (dot_of r second m (address_at r second (i / 4)) (i / 4) (i % 4))

-- the colours of a field, and of the frame
abbrev pub field_dots : Registers → List ℕ → Bool → List Dot
field_dots r m second = run (dot_for r second m) 0 (pixels_seen r second)

abbrev pub frame_dots : Registers → List ℕ → List Dot
frame_dots r m = in_fields r (field_dots r m)

-- refusal 20 of a field drawn at once, and of a whole picture: a place that is read ends beyond the memory
unfoldable pub field_refuses20 : Registers → List ℕ → Bool → Bool
field_refuses20 r m second =
    not (forced_blank r.control)
    && (transferring r.control && some (λ i. ends_beyond (pixel_bits r.control) m (place_at r second i)) (pixels_seen r second))

abbrev pub picture_refuses20 : Registers → List ℕ → Bool
picture_refuses20 r m = field_refuses20 r m false || ((screen r).interlaced && field_refuses20 r m true)

-- the sums after v visible ticks of a field
unfoldable pub sums_to : Registers → Bool → List ℕ → ℕ → Sums
sums_to r second m v = cond (forced_blank r.control) none (summed none (colours_of (run (dot_for r second m) 0 (4 * v))))

-- the generator that a whole field leaves: of the one it began with nothing but, where no tick is visible, the last request
unfoldable pub field_end : Registers → Bool → List ℕ → Bool → Generator
field_end r second m asked =
    record {
      second = (screen r).interlaced && not second;
      half = record { 0 = 0 };
      at = record { 0 = 0 };
      seen = record { 0 = 0 };
      held = address_at r second (ticks_seen r second - 1);
      asked = cond (ltb 0 (ticks_seen r second)) (asks r.control (screen r) (ticks_seen r second - 1)) asked;
      sums = sums_to r second m (ticks_seen r second);
    }

-- and a whole frame: nothing, since its first field always has visible ticks
unfoldable pub frame_end : Registers → List ℕ → Generator
frame_end r m =
    cond (screen r).interlaced (field_end r true m (field_end r false m false).asked) (field_end r false m false)

-- a whole frame is its ticks, in every mode
pub record Whole (r : Registers) (m : List ℕ) (g : Generator) : Type 0 where
  pub refusal : refused_within r m g (frame_ticks (screen r)) ≡ picture_refuses20 r m
  pub colours : picture_refuses20 r m ≡ false → drawn r m g (frame_ticks (screen r)) ≡ frame_dots r m
  pub end : picture_refuses20 r m ≡ false → after r m g (frame_ticks (screen r)) ≡ frame_end r m
