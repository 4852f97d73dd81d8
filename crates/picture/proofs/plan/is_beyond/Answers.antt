-- `picture::plan::is_beyond` meets its contract. The invariant: the places of the first v visible ticks are looked through. Assumes nothing.
use native.Mathlib.Omega.{arith}
use Rattle.control.specs.Control.{pixel_bits}
use Rattle.picture.proofs.plan.Segments.{beyond_more}
use Rattle.picture.proofs.plan.is_beyond.Goals as goal

pub loop-v-preserved : goal.loop-v-preserved
loop-v-preserved c =
    let now = c.loop-v in
    let p = c.args.p.plan in
    (omega (arith, c.segment_at-s.ensures.segment.in_field), beyond_more p now.v c.segment_at-s.result c.segment_at-s.ensures.segment (pixel_bits p.control) c.args.memory.now _ _ now.invariant.1 c.ends_beyond-far.ensures.refusal)
