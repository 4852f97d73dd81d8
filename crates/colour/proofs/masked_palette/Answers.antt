-- `colour::masked_palette` meets its contract: at the loop's end each of the 256 entries is its pixel's colour. Assumes nothing.
use Rattle.std.proofs.Common.{arith}
use Rattle.colour.proofs.Cases.{filled_all}
use Rattle.colour.proofs.masked_palette.Goals as goal

pub returns : goal.returns
returns c =
    let end = c.loop-pixel in
    record { table = filled_all _ _ _ c.loop-pixel-test.array_long (λ k h. end.invariant k (omega arith)) }
