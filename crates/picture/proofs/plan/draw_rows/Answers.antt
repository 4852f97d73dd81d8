-- `picture::plan::draw_rows` meets its contract: one more segment at each turn. Assumes nothing.
use native.Mathlib.Omega.{arith}
use Rattle.base.specs.Count.{run}
use Rattle.picture.specs.Span.{through_by}
use Rattle.picture.proofs.span.Spans.{painted_none, painted_length}
use Rattle.picture.proofs.plan.Segments.{segment_small, painted_rows}
use Rattle.picture.proofs.plan.draw_rows.Goals as goal

pub loop-v-init : goal.loop-v-init
unfolding run
loop-v-init c = (omega arith, painted_none _ _ _)

pub draw_stretch-t-requires : goal.draw_stretch-t-requires
draw_stretch-t-requires c = segment_small c.args.p.plan c.loop-v.v _ c.segment_at-s.ensures.segment _ (omega (arith, painted_length c.loop-v.invariant.1, c.requires))

pub loop-v-preserved : goal.loop-v-preserved
loop-v-preserved c =
    (omega (arith, c.segment_at-s.ensures.segment.in_field), painted_rows c.args.p.plan c.loop-v.v _ c.segment_at-s.ensures.segment (through_by c.args.brush) c.loop-v.invariant.1 c.draw_stretch-t.ensures.painted)
