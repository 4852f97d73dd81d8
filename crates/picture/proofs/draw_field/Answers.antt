-- `picture::draw_field` meets its contract: its plan painted, and what that leaves. Assumes nothing.
use Rattle.picture.proofs.Closed.{field_plan, field_drawn}
use Rattle.picture.proofs.draw_field.Goals as goal

pub paint_field-sums-requires : goal.paint_field-sums-requires
paint_field-sums-requires c =
    let planned = field_plan c.args.r c.args.second c.args.memory.now _ c.plan_of-p.ensures.plan _ c.requires.fits in
    record { plan = planned.0; fits = planned.1 }

pub returns : goal.returns
returns c =
    let a = c.args in
    let drawn = field_drawn a.r a.second a.memory.now _ c.plan_of-p.ensures.plan a.g.asked _ _ _ _ (c.paint_field-sums.ensures.sums, c.paint_field-sums.ensures.bytes) c.end_of.ensures.end in
    record { end = drawn.0; bytes = drawn.1 }
