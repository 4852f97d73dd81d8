-- The transfer request (01, "Rows and pixels"; 02, Q-4), from what is known of a tick. on: row transfers are on. Assumes nothing.
use Rattle.std.specs.Prelude.{ℕ, Bool, cond, ◌&&◌, ltb, leb, eqb}
use Rattle.request.specs.declared.Known.{Known}

-- at visible tick v: v mod R, the rest, is at least MemInit
abbrev pub asking : Bool → ℕ → ℕ → Bool
asking on meminit rest = on && leb meminit rest

-- transfers off, low; up to a field's first visible tick its prelude; between lines what the visible tick before had; past the field's last
-- visible tick low
abbrev pub requested : Known → Bool
requested k = k.on && cond k.visible k.asks (cond (eqb k.seen 0) k.leads (ltb k.seen k.all && k.asked))
