-- `lines::Field::low_at` meets its contract: from VBlank on sync is that of a full line, and before it the period says.
use Rattle.lines.proofs.Moments.{by_ends, full_low}
use Rattle.lines.proofs.Field.low_at.Goals as goal

pub returns-then-self-half : goal.returns-then-self-half
returns-then-self-half c =
    let f = c.args.self in
    record { test = full_low f.s c.args.half f.ends f.ends_are c.if-self-half.true c.args.plain _ _ c.args.at _ }

pub returns : goal.returns
returns c =
    let f = c.args.self in
    record { test = rw (c.is_low.ensures.test, by_ends f.s c.args.half f.ends f.ends_are _ c.period_of.ensures.period) }
