-- Rows (01, "Rows and pixels"; 02, Q-4): what shows, top of screen, transfers, addresses, the request. r: the registers, g: the generator before
-- the tick. Assumes nothing.
use Rattle.std.specs.Prelude.{ℕ, ◌+◌, ◌*◌, ◌/◌, ◌%◌, Bool, not, cond, ◌&&◌, ltb, eqb}
use Rattle.base.specs.Sum.{rolled}
use Rattle.control.specs.Control.{interlaced, forced_blank, transferring, increment, offset, row_divisor}
use Rattle.units.specs.Parameters.{screen_of, in_field, row_length}
use Rattle.request.specs.Request.{asking, requested}
use Rattle.units.specs.declared.Screen.{Screen}
use Rattle.registers.specs.declared.Registers.{Registers}
use Rattle.lines.specs.Lines.{visible, opens, tick_number, visible_before, field_visible}
use Rattle.generator.specs.declared.Generator.{Generator}

-- the screen under a control word, under the one that stands, and in the field at hand
abbrev pub screen_under : Registers → ℕ → Screen
screen_under r control = screen_of r.params (interlaced control)

abbrev pub screen : Registers → Screen
screen r = screen_under r r.control

abbrev pub field_at : Registers → Generator → Screen
field_at r g = in_field g.second (screen r)

unfoldable pub visible_at : Registers → Generator → Bool
visible_at r g = visible (field_at r g) g.half.0 g.at.0

-- a tick is blank unless visible and not forced blank
unfoldable pub shows : Registers → Generator → Bool
shows r g = visible_at r g && not (forced_blank r.control)

-- the top that a field starts at: the second one of an interlaced frame the offset further on, modulo 2^24
unfoldable pub top_used : Registers → Bool → ℕ
top_used r second = cond second (rolled r.top (offset r.control)) r.top

-- top of screen is taken up at the first VDisplay tick of each field
unfoldable pub taken : Registers → Generator → ℕ
taken r g = cond (opens (field_at r g) g.half.0 g.at.0) (top_used r g.second) g.held

-- a transfer happens at v when v is a multiple of R
unfoldable pub transfer_at : Registers → Generator → Bool
transfer_at r g = visible_at r g && eqb (g.seen.0 % row_length (screen r)) 0

-- first from top, then from the last address plus the increment, modulo 2^24
unfoldable pub held_address : Registers → Generator → ℕ
held_address r g = cond (transfer_at r g && ltb 0 g.seen.0) (rolled (taken r g) (increment r.control)) (taken r g)

-- the row number is the held address over the row's divisor as control stands, rounded down
abbrev pub row_number : Registers → ℕ → ℕ
row_number r address = address / row_divisor r.control

-- its first pixel stands row x R x 4 pixels from the beginning; pixel k of visible tick v, where an address is held
unfoldable pub place : Registers → ℕ → ℕ → ℕ → ℕ
place r address v k = (row_number r address * row_length (screen r) + v % row_length (screen r)) * 4 + k

-- the request at visible tick v
unfoldable pub asks : ℕ → Screen → ℕ → Bool
asks control s v = asking (transferring control) s.meminit.0 (v % row_length s)

-- tick n of the field is one of the TransferDelay just before its first visible one: none is visible up to and including it, and one among the
-- next TransferDelay is (on a screen that may start that one is never past the field's end)
unfoldable pub leads : Screen → ℕ → Bool
leads s n = eqb (visible_before s (n + 1)) 0 && ltb 0 (visible_before s (n + 1 + s.transferdelay.0))

-- the request, by its own rule
unfoldable pub request_at : Registers → Generator → Bool
request_at r g =
    requested
    (record {
      on = transferring r.control;
      visible = visible_at r g;
      asks = asks r.control (screen r) g.seen.0;
      leads = leads (field_at r g) (tick_number (field_at r g) g.half.0 g.at.0);
      seen = g.seen.0;
      all = field_visible (field_at r g);
      asked = g.asked;
    })
