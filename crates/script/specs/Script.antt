-- A whole line of the bench script (docs/SCRIPT.md): skipped, too long, or a command. Assumes nothing.
use Rattle.std.specs.Prelude.{ℕ, Bool, true, cond, ◌&&◌, List, ltb, leb, eqb, length, get_or}
use Rattle.words.specs.Faults.{too_long}
use Rattle.script.specs.Commands.{faulty, command_of}
use Rattle.script.specs.declared.command.Command.{Command}

-- a line that answers nothing: empty, or a remark
abbrev pub skipped : List ℕ → Bool
skipped line = cond (eqb (length line) 0) true (leb (length line) 1000 && eqb (get_or line 0 0) 59)

-- a line of more than 1,000 bytes is too long, whatever it holds
abbrev pub line_command : List ℕ → ℕ → Command
line_command line memory = cond (ltb 1000 (length line)) (faulty 13 too_long) (command_of line memory)

-- the ticks that `tick` or `run` asks for: `tick` alone is one
abbrev pub ticks_of : Command → ℕ
ticks_of c = cond (eqb c.left.count 0) 1 (get_or c.left.values 0 0)
