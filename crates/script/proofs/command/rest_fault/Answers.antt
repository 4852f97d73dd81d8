-- `script::command::rest_fault` meets its contract: the two tests in their order.
use Rattle.script.specs.Commands.{rest_fault}
use Rattle.script.proofs.command.rest_fault.Goals as goal

pub returns : goal.returns
unfolding rest_fault
returns c = record { fault = rw (c.choose-2.ensures.chosen, c.choose.ensures.chosen, c.takes_of-takes.ensures.size c.requires.0) }
