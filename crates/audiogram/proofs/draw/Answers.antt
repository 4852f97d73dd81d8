-- `audiogram::draw` meets its contract: one byte of the picture more at each turn, and behind it the memory as it was. Assumes nothing.
use Prim.Native.Nat.{min}
use mathlib.Core.Path.{◌≡◌, ◌∙◌, ap}
use mathlib.Core.List.{◌++◌}
use native.Mathlib.Omega.{arith}
use lib.ListN.{length, take, drop, length-take}
use Rattle.base.specs.Count.{run}
use Rattle.base.proofs.Laying.{laid_none, laid_next, laid_all}
use Rattle.audiogram.specs.Picture.{size, byte_at}
use Rattle.audiogram.proofs.Laying.{laid_whole}
use Rattle.audiogram.proofs.draw.Goals as goal

pub loop-i-init : goal.loop-i-init
loop-i-init c = laid_none _ _

pub loop-i-preserved : goal.loop-i-preserved
loop-i-preserved c = let l = c.loop-i in laid_next _ _ l.i _ _ (omega arith) l.invariant c.byte_at.ensures.byte

pub returns : goal.returns
returns c =
    let l = c.loop-i in
    let a = c.args in
    let end = c.min-end.result in
    let most : end ≡ min (length a.memory.now) (size a.interlaced) = rw (c.min-end.ensures, c.size_of.ensures.bytes) in
    let there : length (take end a.memory.now) ≡ end = length-take end a.memory.now ∙ omega arith in
    let whole : l.i ≡ end = omega arith in
    let items : l.byte-items ≡ run (byte_at a.interlaced a.chart.right a.chart.left) 0 end = rw whole at (laid_all _ _ _ l.i (omega arith) l.invariant) in
    record { bytes = laid_whole _ _ _ _ _ end most (ap (λ xs. xs ++ drop end a.memory.now) items) }
