-- DEMAND 2, a tick that is answered: every signal, address, colour and checksum is what document 01's rules say ("Lines and frames", "Rows and
-- pixels"), and document 02's (Q-4). m: the machine before the tick, memory: the picture memory. Assumes nothing.
use Rattle.std.specs.Prelude.{ℕ, ◌+◌, ◌%◌, Bool, not, cond, ◌&&◌, List, [], ◌∷◌, ◌≡◌, ltb, leb, eqb}
use Rattle.base.specs.Count.{run}
use Rattle.control.specs.Control.{forced_blank, plain, transferring}
use Rattle.units.specs.Parameters.{row_length}
use Rattle.units.specs.declared.Screen.{Screen}
use Rattle.signals.specs.Signals.{black, colours_of}
use Rattle.signals.specs.declared.Signals.{Signals}
use Rattle.pixel.specs.Sums.{cleared_at, summed}
use Rattle.pixel.specs.declared.Sums.{Sums}
use Rattle.lines.specs.Lines.{period, is_vsync, is_vdisplay, sync_low, visible, opens, closes, next_second, next_half, next_at, tick_number, field_visible}
use Rattle.generator.specs.Rows.{field_at, held_address, leads}
use Rattle.generator.specs.Sound.{Placed}
use Rattle.generator.specs.Tick.{dot_of}
use Rattle.generator.specs.declared.Generator.{Generator}
use Rattle.machine.specs.Rules.{advanced}
use Rattle.machine.specs.declared.Machine.{Machine}

-- the screen in the field at hand, and the tick's half line in it, its place in that half line, and v
abbrev pub screen_now : Machine → Screen
screen_now m = field_at m.regs m.generator

abbrev pub half_now : Machine → ℕ
half_now m = m.generator.half.0

abbrev pub at_now : Machine → ℕ
at_now m = m.generator.at.0

abbrev pub v : Machine → ℕ
v m = m.generator.seen.0

-- a visible tick is a Display tick inside VDisplay
abbrev pub visible_now : Machine → Bool
visible_now m = visible (screen_now m) (half_now m) (at_now m)

-- what it puts out, and the generator after it
abbrev pub out : Machine → List ℕ → Signals
out m memory = (advanced m memory).signals

abbrev pub next : Machine → List ℕ → Generator
next m memory = (advanced m memory).machine.generator

-- the request: at visible tick v by v mod R; before the first in the TransferDelay ticks just before it; between lines as at the visible tick before;
-- after the field's last low
abbrev pub request_now : Machine → Bool
request_now m =
    cond (visible_now m) (leb (screen_now m).meminit.0 (v m % row_length (screen_now m)))
    (cond (eqb (v m) 0) (leads (screen_now m) (tick_number (screen_now m) (half_now m) (at_now m)))
    (ltb (v m) (field_visible (screen_now m)) && m.generator.asked))

-- sums clear at the first VDisplay tick of each field
abbrev pub cleared_now : Machine → Sums
cleared_now m = cleared_at (opens (screen_now m) (half_now m) (at_now m)) m.generator.sums

pub record ByTheRules (m : Machine) (memory : List ℕ) : Type 0 where
  -- true is high
  pub sync : (out m memory).sync ≡ not (sync_low (screen_now m) (plain m.regs.control) (half_now m) (at_now m))
  pub vertical_sync : (out m memory).vsync ≡ not (is_vsync (period (screen_now m) (half_now m)))
  pub frame_inactive : (out m memory).inactive ≡ not (is_vdisplay (period (screen_now m) (half_now m)))
  -- a tick is blank unless visible and not forced blank
  pub blank : (out m memory).blank ≡ not (visible_now m && not (forced_blank m.regs.control))
  -- with transfers off the request stays low
  pub request : (out m memory).request ≡ (transferring m.regs.control && request_now m)
  -- a transfer at v when v is a multiple of R; only then is an address answered, and with transfers off none
  pub transfer : (out m memory).transfer ≡ (transferring m.regs.control && (visible_now m && eqb (v m % row_length (screen_now m)) 0))
  pub address : (out m memory).address ≡ cond (out m memory).transfer (held_address m.regs m.generator) 0
  -- the four colours: by the pixel's rule, and black where blank
  pub colours :
      (out m memory).dots
      ≡ cond (out m memory).blank (black ∷ black ∷ black ∷ black ∷ []) (run (dot_of m.regs m.generator.second memory (held_address m.regs m.generator) (v m)) 0 4)
  -- each unblanked colour byte put out is added to its 24-bit sum, and nothing else is
  pub checksums : (next m memory).sums ≡ cond (out m memory).blank (cleared_now m) (summed (cleared_now m) (colours_of (out m memory).dots))
  -- it lies inside its field, and v counts the field's visible ticks before it
  pub placed : Placed (screen_now m) m.generator
  -- what it leaves: the field and the place one tick on, v, the last address, the request at the visible tick before; and every register
  pub second : (next m memory).second ≡ next_second (screen_now m) (half_now m) (at_now m)
  pub half : (next m memory).half.0 ≡ next_half (screen_now m) (half_now m) (at_now m)
  pub at : (next m memory).at.0 ≡ next_at (screen_now m) (at_now m)
  pub seen : (next m memory).seen.0 ≡ cond (closes (screen_now m) (half_now m) (at_now m)) 0 (cond (visible_now m) (v m + 1) (v m))
  pub held : (next m memory).held ≡ held_address m.regs m.generator
  pub asked : (next m memory).asked ≡ cond (visible_now m) (out m memory).request m.generator.asked
  pub registers : (advanced m memory).machine.regs ≡ m.regs
