-- `lines::Field::lines_above` meets its contract: two half lines make a line.
use native.Mathlib.Omega.{arith}
use Rattle.lines.specs.Lines.{line_of, lines_above}
use Rattle.lines.proofs.Moments.{origin_most}
use Rattle.lines.proofs.Field.lines_above.Goals as goal

pub overflow_add-first : goal.overflow_add-first
overflow_add-first c =
    let f = c.args.self in
    rw f.ends_are (omega (arith, f.narrow, origin_most f.s f.narrow f.origin f.origin_is))

pub overflow_add-half : goal.overflow_add-half
overflow_add-half c =
    let f = c.args.self in
    omega (arith, origin_most f.s f.narrow f.origin f.origin_is)

pub returns : goal.returns
unfolding line_of lines_above
returns c = record { lines = rw (c.saturating_sub.ensures, c.args.self.ends_are, c.args.self.origin_is) }
