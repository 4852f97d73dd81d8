-- `memory::pixel_shown` meets its contract: the pixel in its byte where transfers are on, and 0 where they are off. Assumes nothing.
use mathlib.Core.Path.{sym, ◌∙◌}
use Rattle.memory.proofs.Laws.{shown_in, shown_off}
use Rattle.memory.proofs.pixel_shown.Goals as goal

pub returns-then-on : goal.returns-then-on
returns-then-on c =
    let on = c.before.before.before in
    let start = on.before.before.before in
    record { pixel = c.pixel_in.ensures.pixel ∙ rw (c.byte_at-byte.ensures.byte, c.byte_of.ensures.byte) (shown_in start.args.control start.args.memory.now start.args.place (sym on.is_transferring-on.ensures.bit ∙ on.if-on.true)) }

pub returns : goal.returns
returns c = record { pixel = shown_off _ _ _ (sym c.is_transferring-on.ensures.bit ∙ c.if-on.false) }
