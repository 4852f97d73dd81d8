-- `generator::output::covered` meets its contract: one pixel after the other.
use Rattle.base.specs.Count.{run}
use Rattle.generator.proofs.output.covered.Goals as goal

pub returns : goal.returns
unfolding run
returns c = record { dots = rw (c.dot_of-d.ensures.dot, c.dot_of-c.ensures.dot, c.dot_of-b.ensures.dot, c.dot_of-a.ensures.dot) }
