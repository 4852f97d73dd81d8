-- `script::command::plain_of` meets its contract: its numbers' fault, or else that of the rest.
use Rattle.script.proofs.command.Cases.{plain_made}
use Rattle.script.proofs.command.plain_of.Goals as goal

pub returns : goal.returns
returns c = record { command = plain_made _ _ _ _ _ _ _ c.numbers_for-left.ensures.numbers c.no_numbers.ensures.numbers c.rest_fault-later.ensures.fault c.choose-fault.ensures.chosen }
