-- `script::command::command_of` meets its contract, by the name.
use native.Mathlib.Omega.{arith}
use Rattle.script.proofs.command.Cases.{command_unknown, command_compare, command_plain}
use Rattle.script.proofs.command.command_of.Goals as goal

pub returns-in-13 : goal.returns-in-13
returns-in-13 c = record { command = command_unknown _ _ _ _ c.word_after-word.ensures.bytes c.name_of-name.ensures.name _ c.in-13.is c.faulty.ensures.command }

pub returns-in-12 : goal.returns-in-12
returns-in-12 c = record { command = command_compare _ _ _ _ c.word_after-word.ensures.bytes c.name_of-name.ensures.name _ c.word_after-word.ensures.left (λ h. omega (arith, h, c.in-12.is)) _ c.in-12.is c.compare_of.ensures.command }

pub returns-in_default : goal.returns-in_default
returns-in_default c = record { command = command_plain _ _ _ _ c.word_after-word.ensures.bytes c.name_of-name.ensures.name _ c.word_after-word.ensures.left (λ h. omega (arith, h, c.in_default)) _ (λ h. omega (arith, h, c.in_default)) c.plain_of.ensures.command }
