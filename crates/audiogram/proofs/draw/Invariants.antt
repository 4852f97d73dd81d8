-- `audiogram::draw` meets its contract: one byte of the picture more at each turn, and behind it the memory as it was. Assumes nothing.
use mathlib.Core.Path.{◌≡◌}
use mathlib.Core.List.{◌++◌}
use lib.ListN.{drop}
use Rattle.base.specs.Count.{run}
use Rattle.audiogram.specs.Picture.{byte_at}
use Rattle.audiogram.proofs.draw.Given as goal

abbrev pub invariant-loop-i : goal.invariant-loop-i
invariant-loop-i l = l.byte-items ≡ run (byte_at l.interlaced l.chart.right l.chart.left) 0 l.i ++ drop l.i l.initial.byte-items
