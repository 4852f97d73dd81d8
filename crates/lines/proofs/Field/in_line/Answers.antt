-- `lines::Field::in_line` meets its contract: half a line more in a line's second half.
use native.Mathlib.Omega.{arith}
use Rattle.lines.specs.Lines.{second_half, in_line}
use Rattle.lines.proofs.Moments.{origin_most}
use Rattle.lines.proofs.Field.in_line.Goals as goal

pub overflow_add-late : goal.overflow_add-late
overflow_add-late c =
    let f = c.args.self in
    omega (arith, origin_most f.s f.narrow f.origin f.origin_is)

pub returns : goal.returns
unfolding in_line second_half
returns c = record { tick = rw (c.choose.ensures.chosen, c.args.self.origin_is) }
