-- `picture::span::paint` meets its contract: one more pixel at each turn. Assumes nothing.
use Prim.Native.Nat.{◌-◌}
use mathlib.Core.Path.{◌≡◌, refl}
use native.Mathlib.Omega.{arith}
use Rattle.base.specs.Count.{run}
use Rattle.picture.proofs.span.Spans.{painted_none, painted_turn}
use Rattle.picture.proofs.span.paint.Goals as goal

pub loop-i-init : goal.loop-i-init
unfolding run
loop-i-init g c =
    let none : c.args.first - c.args.first ≡ 0 = omega arith in
    (refl, λ f h. rw none (painted_none _ _ _))

pub loop-i-preserved : goal.loop-i-preserved
loop-i-preserved g c =
    let i = c.loop-i.i in
    (omega arith, λ f h. painted_turn f c.args.first i (omega arith) (c.loop-i.invariant.1 f h) (omega arith) (rw (h i c.colour.result (omega arith) (omega arith) c.colour.ensures) at c.put-t.ensures.painted))

pub returns : goal.returns
returns g c =
    let e : c.loop-i.i ≡ c.args.end = omega arith in
    record { painted = λ f h. rw e at (c.loop-i.invariant.1 f h) }
