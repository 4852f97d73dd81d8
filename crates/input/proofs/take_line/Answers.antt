-- `input::take_line` meets its contract: the text in front of the first LF, so far as the room has place.
use mathlib.Core.Path.{refl}
use Rattle.input.proofs.Taking.{line_taken}
use native.Mathlib.Omega.{arith}
use Rattle.input.proofs.take_line.Goals as goal

pub returns : goal.returns
returns c =
    let text = c.unwrap_or.ensures in
    let ended = c.is_some-ended.ensures in
    let line = line_taken c.args.piece.now c.args.line.now c.args.from _ _ _ _ _ _ _ _ c.min.ensures refl c.end_of-end.ensures.end (rw text) ended c.min-first.ensures c.min-placed.ensures _ _ _ c.from.ensures c.copy_from_slice.ensures.after (omega arith) in
    record { taken = line.0; bytes = line.1 }
