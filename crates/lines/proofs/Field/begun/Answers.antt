-- `lines::Field::begun` meets its contract: no more than all of Display.
use Rattle.lines.specs.Lines.{column_of}
use Rattle.lines.proofs.Field.begun.Goals as goal

pub returns : goal.returns
unfolding column_of
returns c = record { ticks = rw (c.min.ensures, c.saturating_sub-column.ensures, c.in_line.ensures.tick, c.display_from.ensures.ticks) }
