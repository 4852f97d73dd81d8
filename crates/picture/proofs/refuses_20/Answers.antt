-- `picture::refuses_20` meets its contract: the one field, or either. Assumes nothing.
use Rattle.picture.proofs.Closed.{field_refuses, refuses_one, refuses_two}
use Rattle.picture.proofs.refuses_20.Goals as goal

pub returns-then-interlaced : goal.returns-then-interlaced
returns-then-interlaced c =
    let a = c.args in
    record { refusal = refuses_two a.r a.memory.now _ c.is_interlaced-interlaced.ensures.bit _ (field_refuses a.r _ a.memory.now _ c.plan_of.ensures.plan _ c.refuses_20-first.ensures.refusal) c.if-interlaced.true _ (field_refuses a.r _ a.memory.now _ c.plan_of-then-interlaced.ensures.plan _ c.refuses_20-second.ensures.refusal) }

pub returns : goal.returns
returns c =
    let a = c.args in
    record { refusal = refuses_one a.r a.memory.now _ c.is_interlaced-interlaced.ensures.bit _ (field_refuses a.r _ a.memory.now _ c.plan_of.ensures.plan _ c.refuses_20-first.ensures.refusal) c.if-interlaced.false }
