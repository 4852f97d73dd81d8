-- What a field puts out (02, Q-1, and Q-4: a field in place of a frame), as one knows it who sees the calls and their answers; a whole picture counts
-- as the ticks of its frame, which it is. m: the machine before a call. Assumes nothing.
use Rattle.std.specs.Prelude.{ℕ, zero, suc, Bool, true, not, cond, ◌&&◌, ◌||◌, List, [], ◌∷◌, ◌++◌, eqb, length}
use Rattle.screen.specs.Totals.{frame_ticks}
use Rattle.signals.specs.Signals.{colours_of}
use Rattle.signals.specs.declared.Signals.{Signals}
use Rattle.generator.specs.Rows.{screen}
use Rattle.generator.specs.Tick.{tick_of}
use Rattle.machine.specs.Calls.{write, read, tick}
use Rattle.machine.specs.Rules.{beginning, written, advanced}
use Rattle.machine.specs.declared.Machine.{Machine}
use Rattle.picture.specs.Machines.{ticked, pictured}
use Rattle.demands.specs.Asked.{Asked, of, lent, picture, after_asked}
use Rattle.demands.specs.Demand2.{runs}

-- what has been seen: FrameInactive at the last tick since the start, and the colours put out since the field's first VDisplay tick
pub record Watched : Type 0 where
  pub high : Bool
  pub colours : List ℕ

-- before any tick
abbrev pub unwatched : Watched
unwatched = record { high = true; colours = [] }

-- a field's first VDisplay tick: FrameInactive, which is high in all but VDisplay, has fallen
abbrev pub is_first : Watched → Signals → Bool
is_first w s = w.high && not s.inactive

-- the colours of a tick that is not blank
abbrev pub lit : Signals → List ℕ
lit s = cond s.blank [] (colours_of s.dots)

-- what the field had put out before a tick: nothing, where the tick is its first
abbrev pub begun : Watched → Signals → List ℕ
begun w s = cond (is_first w s) [] w.colours

-- a tick that is answered
abbrev pub seen : Watched → Signals → Watched
seen w s = record { high = s.inactive; colours = begun w s ++ lit s }

-- a tick; a refused one puts out nothing
unfoldable pub with_tick : Watched → ℕ → Signals → Watched
with_tick w refusal s = cond (eqb refusal 0) (seen w s) w

-- n ticks, one after another, with one picture memory
unfoldable pub with_ticks : Watched → Machine → List ℕ → ℕ → Watched
with_ticks w m memory zero = w
with_ticks w m memory (suc n) =
    with_tick (with_ticks w m memory n) (advanced (ticked m memory n) memory).refusal (advanced (ticked m memory n) memory).signals

-- a write that starts the generator ends the field: it zeroes the checksums (01, "Starting a screen"). No other write ends one, nor does a stop
abbrev pub started : Machine → Machine → Bool
started m after = not (runs m) && runs after

-- any call seen; a whole picture that is not refused is the ticks of its frame
abbrev pub with_call : Watched → Machine → Asked → Watched
with_call w m (of (write address value)) = cond (started m (written m address value).machine) unwatched w
with_call w m (of (read address)) = w
with_call w m (of (tick memory)) = with_tick w (advanced m memory).refusal (advanced m memory).signals
with_call w m (lent memory) = with_tick w (tick_of m.regs memory m.generator).refusal (tick_of m.regs memory m.generator).signals
with_call w m (picture memory buffer) =
    cond (eqb (pictured m memory (length buffer)).refusal 0) (with_ticks w m memory (frame_ticks (screen m.regs))) w

abbrev pub with_calls : Watched → Machine → List Asked → Watched
with_calls w m [] = w
with_calls w m (call ∷ rest) = with_calls (with_call w m call) (after_asked m call) rest

-- WHAT THE LAST FIELD HAS PUT OUT after these calls: the colours of all pixels of its ticks that are not blank, in tick order, from its first
-- VDisplay tick on
abbrev pub put_out : List Asked → List ℕ
put_out calls = (with_calls unwatched beginning calls).colours

-- flyback has begun: FrameInactive is high at the next tick; or it is stopped, where the checksums can be read as well
abbrev pub in_flyback : Machine → Bool
in_flyback m = not (runs m) || (advanced m []).signals.inactive
