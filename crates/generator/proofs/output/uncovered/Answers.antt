-- `generator::output::uncovered` meets its contract: one pixel after the other.
use Rattle.base.specs.Count.{run}
use Rattle.generator.proofs.output.uncovered.Goals as goal

pub returns : goal.returns
unfolding run
returns c = record { dots = rw (c.coloured-4.ensures.dot, c.coloured-3.ensures.dot, c.coloured-2.ensures.dot, c.coloured.ensures.dot, c.fetched-four.ensures.pixels) }
