-- `report::ticks::put_colours` meets its contract: each turn puts the texts of one pixel more.
use Rattle.room.specs.Room.{texts_of}
use Rattle.room.proofs.Laying.{Puts}
use Rattle.report.specs.TickLines.{dot_texts}
use Rattle.report.proofs.ticks.put_colours.Given as goal

abbrev pub invariant-loop-dot : goal.invariant-loop-dot
invariant-loop-dot l = Puts l.initial.room l.at (texts_of (dot_texts l.fn.s) l.dot-index) l.room l.end
