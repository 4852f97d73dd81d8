-- `chart::read_all` is safe and ends: each turn leaves fewer. Assumes nothing.
use Rattle.chart.proofs.read_all.Given as goal

abbrev pub invariant-loop-reader : goal.invariant-loop-reader
invariant-loop-reader g l = Unit {0}

abbrev pub decreases-loop-reader : goal.decreases-loop-reader
decreases-loop-reader g l = l.reader.turns
