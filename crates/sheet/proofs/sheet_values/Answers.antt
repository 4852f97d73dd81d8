-- `sheet::sheet_values` meets its contract. The loop keeps: the values so far, with those left stored behind them, are the sheet's. Assumes nothing.
use Prim.Native.Nat.{◌+◌, ◌*◌}
use mathlib.Core.Path.{◌≡◌, refl}
use native.Mathlib.Omega.{arith}
use lib.ListN.{drop}
use Rattle.sheet.specs.Reader.{pair, values_from}
use Rattle.sheet.proofs.Cases.{valued}
use Rattle.sheet.proofs.sheet_values.Goals as goal

pub loop-i-init : goal.loop-i-init
unfolding values_from
loop-i-init c = refl

pub loop-i-preserved : goal.loop-i-preserved
loop-i-preserved c =
    let value : 256 * c.wide_at.result + c.wide_at-in-loop-i.result ≡ pair (drop (5 * c.loop-i.i) c.args.sheet.now) 3 = rw (c.wide_at-in-loop-i.ensures.same, c.wide_at.ensures.same, c.left_from-left.ensures.left) in
    rw value (valued _ _ _ c.loop-i.i (omega arith) c.loop-i.invariant)

pub returns : goal.returns
unfolding values_from
returns c =
    let end : c.loop-i.i ≡ 14 = omega arith in
    record { values = rw end at c.loop-i.invariant }
