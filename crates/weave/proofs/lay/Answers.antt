-- `weave::lay` meets its contract: one byte more at each turn.
use mathlib.Core.Path.{◌≡◌}
use native.Mathlib.Omega.{arith}
use lib.ListN.{length}
use Rattle.std.proofs.lemmas.List.{length-take}
use Rattle.base.proofs.Run.{run_is}
use Rattle.weave.specs.Part.{byte_in}
use Rattle.weave.proofs.lay.Goals as goal

pub returns : goal.returns
returns c =
    let long : length c.loop-k.byte-items ≡ c.args.count = omega (arith, length-take c.args.count c.args.room.now) in
    let laid = run_is (byte_in c.args.picture.now c.args.p) c.args.count c.loop-k.byte-items long (λ j h. c.loop-k.invariant j (omega arith)) in
    record { bytes = rw laid }
