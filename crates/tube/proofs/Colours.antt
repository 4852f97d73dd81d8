-- The script's colours: right ear red, left ear blue, by computation; and what goes out for a place of memory, by the machine's own pixel rule.
-- Assumes nothing. n: whether the room is interlaced.
use Prim.Native.Nat.{ℕ, zero, suc, ◌≤◌}
use mathlib.Core.Path.{◌≡◌, refl, sym, ◌∙◌, ap}
use mathlib.Core.Bool.{Bool, true, false, cond}
use native.Mathlib.Omega.{arith}
use mathlib.Core.List.{List, [], ◌∷◌, map}
use lib.ListN.{get_or, replicate}
use Rattle.units.specs.Parameters
use Rattle.screen.specs.Limits
use Rattle.registers.specs.Map
use Rattle.registers.specs.File
use Rattle.base.specs.Channels
use Rattle.memory.specs.Memory.{pixel_at, pixel_shown}
use Rattle.colour.specs.Colour.{masked_colour}
use Rattle.pixel.specs.Dot.{dot_at}
use Rattle.machine.specs.Access
use Rattle.machine.specs.Rules
use Rattle.audiogram.specs.Entry.{paper_entry, right_entry, left_entry, form_entry}
use Rattle.tube.specs.Started.{refusals, table, started}
use Rattle.tube.specs.Shown.{entry_colours}

-- the machine takes every write, from its beginning on, and starts
pub settings_accepted : (n : Bool) → refusals Rules.beginning (table n) ≡ replicate 21 0
unfolding refusals Parameters.screen_of Limits.later_limit Limits.limit_of Map.place_of File.zeros File.value_in File.store_in Access.start_limit Access.write_refusal Rules.stored Rules.written
settings_accepted false = refl
settings_accepted true = refl

-- the colour that the machine then has for an entry
abbrev pub colour : Bool → ℕ → ℕ
colour n entry = masked_colour (started n).regs.palette (started n).regs.mask entry

-- right ear red, left ear blue, paper white, form grey
pub started_colours : (n : Bool) → map (colour n) (right_entry ∷ left_entry ∷ paper_entry ∷ form_entry ∷ []) ≡ 0xFF0000 ∷ 0x0000FF ∷ 0xFFFFFF ∷ 0x606060 ∷ []
unfolding started masked_colour Parameters.screen_of Limits.later_limit Limits.limit_of Map.place_of File.zeros File.value_in File.store_in Access.start_limit Access.write_refusal Rules.stored Rules.written
started_colours false = refl
started_colours true = refl

module _ (n : Bool) where
  pub red : colour n right_entry ≡ 0xFF0000
  red = ap (λ (l : List ℕ). get_or l 0 0) (started_colours n)

  pub blue : colour n left_entry ≡ 0x0000FF
  blue = ap (λ (l : List ℕ). get_or l 1 0) (started_colours n)

  pub white : colour n paper_entry ≡ 0xFFFFFF
  white = ap (λ (l : List ℕ). get_or l 2 0) (started_colours n)

  pub grey : colour n form_entry ≡ 0x606060
  grey = ap (λ (l : List ℕ). get_or l 3 0) (started_colours n)

-- no two entries look alike
pub only_red : (entry : ℕ) → entry ≤ 3 → get_or entry_colours entry 0 ≡ 0xFF0000 → entry ≡ right_entry
only_red zero h e = absurd (omega (arith, e))
only_red (suc zero) h e = refl
only_red (suc (suc zero)) h e = absurd (omega (arith, e))
only_red (suc (suc (suc zero))) h e = absurd (omega (arith, e))
only_red (suc (suc (suc (suc entry)))) h e = absurd (omega arith)

pub only_blue : (entry : ℕ) → entry ≤ 3 → get_or entry_colours entry 0 ≡ 0x0000FF → entry ≡ left_entry
only_blue zero h e = absurd (omega (arith, e))
only_blue (suc zero) h e = absurd (omega (arith, e))
only_blue (suc (suc zero)) h e = refl
only_blue (suc (suc (suc zero))) h e = absurd (omega (arith, e))
only_blue (suc (suc (suc (suc entry)))) h e = absurd (omega arith)

-- AN ENTRY HAS ONE COLOUR in all rooms
pub same_colour : (entry : ℕ) → entry ≤ 3 → colour true entry ≡ colour false entry
same_colour zero h = white true ∙ sym (white false)
same_colour (suc zero) h = red true ∙ sym (red false)
same_colour (suc (suc zero)) h = blue true ∙ sym (blue false)
same_colour (suc (suc (suc zero))) h = grey true ∙ sym (grey false)
same_colour (suc (suc (suc (suc entry)))) h = absurd (omega arith)

-- how it reads memory: 2 bits a pixel, transfers on, cursor off
started_control : (n : Bool) → (started n).regs.control ≡ cond n 0x901003 0x900001
unfolding started Parameters.screen_of Limits.later_limit Limits.limit_of Map.place_of File.zeros File.value_in File.store_in Access.start_limit Access.write_refusal Rules.stored Rules.written
started_control false = refl
started_control true = refl

-- what goes out for a place, whatever the column and line
pub place_shown : (n : Bool) (position : ℕ) (memory : List ℕ) (place column line : ℕ) → (dot_at (started n).regs position memory place column line).colour ≡ colour n (pixel_at 2 memory place)
unfolding dot_at pixel_shown
place_shown false position memory place column line = rw (started_control false)
place_shown true position memory place column line = rw (started_control true)

-- a colour's bytes, red, green, blue; joined they are the colour
abbrev pub channel_of : ℕ → ℕ → ℕ
channel_of channel c = get_or (Channels.red c ∷ Channels.green c ∷ Channels.blue c ∷ []) channel 0

pub three_bytes : (n : Bool) (entry : ℕ) → entry ≤ 3 → Channels.joined (channel_of 0 (colour n entry)) (channel_of 1 (colour n entry)) (channel_of 2 (colour n entry)) ≡ get_or entry_colours entry 0
three_bytes n zero h = rw (white n)
three_bytes n (suc zero) h = rw (red n)
three_bytes n (suc (suc zero)) h = rw (blue n)
three_bytes n (suc (suc (suc zero))) h = rw (grey n)
three_bytes n (suc (suc (suc (suc entry)))) h = absurd (omega arith)
