-- A field on plain numbers, as the code draws it: addresses, places, colours, segments, what is left. Assumes nothing.
use Rattle.std.specs.Prelude.{ℕ, ◌+◌, ◌-◌, ◌*◌, ◌/◌, ◌%◌, ◌^◌, ◌≤◌, ◌<◌, Bool, false, not, cond, ◌&&◌, List, ◌≡◌, ltb}
use Rattle.base.specs.Count.{some}
use Rattle.control.specs.Control.{interlaced, forced_blank, transferring, increment, row_divisor, pixel_bits}
use Rattle.units.specs.Parameters.{in_field, row_length}
use Rattle.screen.specs.Limits.{Accepted}
use Rattle.lines.specs.Lines.{lead}
use Rattle.registers.specs.declared.Registers.{Registers}
use Rattle.request.specs.Request.{asking}
use Rattle.memory.specs.Memory.{ends_beyond}
use Rattle.picture.specs.Span.{Through, colour_through}
use Rattle.pixel.specs.declared.Sums.{Sums}
use Rattle.generator.specs.Rows.{screen, top_used}
use Rattle.generator.specs.declared.Generator.{Generator}
use Rattle.frame.specs.Frame.{ticks_seen}
use Rattle.picture.specs.declared.plan.Plan.{Plan}
use Rattle.picture.specs.declared.stretch.Stretch.{Stretch}

-- visible ticks of the picture before a field
abbrev pub seen_before : Registers → Bool → ℕ
seen_before r second = cond second (ticks_seen r false) 0

unfoldable pub plan_of : Registers → Bool → Plan
plan_of r second =
    record {
      second = second;
      display = (screen r).display.0;
      lead = lead (in_field second (screen r));
      before = seen_before r second;
      visible = ticks_seen r second;
      meminit = (screen r).meminit.0;
      row = row_length (screen r);
      top = top_used r second;
      increment = increment r.control;
      divisor = row_divisor r.control;
      control = r.control;
      position = r.position;
    }

-- what a picture uses of the one condition
pub record Drawable (r : Registers) : Type 0 where
  pub accepted : Accepted r.control (screen r)
  pub top_in : (second : Bool) → top_used r second ≤ 0xFFFFFF

-- numbers that 24 bits bound; a field may show nothing
pub record Sized (p : Plan) : Type 0 where
  pub display : 0 < p.display
  pub display_most : p.display ≤ 0xFFFFFF
  pub lines_most : p.visible + p.lead ≤ 0x1000001 * p.display
  pub before_most : p.before < 2 ^ 49
  pub row : 0 < p.row
  pub row_most : p.row ≤ 2 ^ 25
  pub top : p.top ≤ 0xFFFFFF
  pub increment_most : p.increment ≤ 1024
  pub divisor : 0 < p.divisor

-- the address held at visible tick v, and the place of visible pixel i
unfoldable pub address_in : Plan → ℕ → ℕ
address_in p v = (p.top + v / p.row * p.increment) % 2 ^ 24

unfoldable pub place_in : Plan → ℕ → ℕ
place_in p i = (address_in p (i / 4) / p.divisor * p.row + i / 4 % p.row) * 4 + i % 4

-- its colour, with the cursor: the lead stood before the first of the field's lines
unfoldable pub colour_in : Plan → Through → ℕ → ℕ
colour_in p t i = colour_through t (place_in p i) (4 * ((i / 4 + p.lead) % p.display) + i % 4) ((i / 4 + p.lead) / p.display)

unfoldable pub refuses_in : Plan → List ℕ → Bool
refuses_in p m =
    not (forced_blank p.control)
    && (transferring p.control && some (λ i. ends_beyond (pixel_bits p.control) m (place_in p i)) (4 * p.visible))

-- the generator after the field: the last visible tick's address and request, and where there is none the first address and the request before
unfoldable pub end_in : Plan → Bool → Sums → Generator
end_in p asked sums =
    record {
      second = interlaced p.control && not p.second;
      half = record { 0 = 0 };
      at = record { 0 = 0 };
      seen = record { 0 = 0 };
      held = address_in p (p.visible - 1);
      asked = cond (ltb 0 p.visible) (asking (transferring p.control) p.meminit ((p.visible - 1) % p.row)) asked;
      sums = sums;
    }

-- the segment from visible tick v on, up to the line's end, the row's or the field's: four pixels for each of its ticks
pub record Cut (p : Plan) (v : ℕ) (s : Stretch) : Type 0 where
  pub some : 0 < s.count / 4
  pub count : s.count ≡ 4 * (s.count / 4)
  pub at : s.at ≡ 12 * (p.before + v)
  pub column : s.x ≡ 4 * ((v + p.lead) % p.display)
  pub line : s.y ≡ (v + p.lead) / p.display
  pub from : s.from ≡ place_in p (4 * v)
  pub in_line : (v + p.lead) % p.display + s.count / 4 ≤ p.display
  pub in_row : v % p.row + s.count / 4 ≤ p.row
  pub in_field : v + s.count / 4 ≤ p.visible
  pub column_most : s.x + s.count < 2 ^ 27
  pub from_most : s.from < 2 ^ 60
