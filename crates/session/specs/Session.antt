-- What a line of a script does (docs/SCRIPT.md), in every form. d: what the last command has done, with the machine and how many bytes of `memory`
-- are lent; room: how many bytes a picture has room for. Assumes nothing.
use Rattle.std.specs.Prelude.{ℕ, Bool, not, cond, ◌||◌, List, eqb}
use Rattle.machine.specs.Rules.{beginning}
use Rattle.script.specs.Script.{skipped, line_command}
use Rattle.changes.specs.LentMemory.{memory_after}
use Rattle.changes.specs.declared.Done.{Done}
use Rattle.changes.specs.Changes.{done_of, picture_after}

-- before a script's first line
abbrev pub first_done : Done
first_done = record { refusal = 0; ticks = 0; memory = 0; machine = beginning }

-- a line that does nothing: one that is skipped, or is at fault
abbrev pub idle : List ℕ → ℕ → Bool
idle line lent = skipped line || not (eqb (line_command line lent).fault 0)

-- WHAT A LINE DOES: what its command does, and an idle one nothing: what was done before it stands
abbrev pub line_done : List ℕ → Done → List ℕ → ℕ → Done
line_done line d memory room = cond (idle line d.memory) d (done_of (line_command line d.memory) d.machine d.memory memory room)

abbrev pub line_memory : List ℕ → Done → List ℕ → List ℕ
line_memory line d memory = cond (idle line d.memory) memory (memory_after (line_command line d.memory) memory)

abbrev pub line_picture : List ℕ → Done → List ℕ → List ℕ → List ℕ
line_picture line d memory picture = cond (idle line d.memory) picture (picture_after (line_command line d.memory) d.machine d.memory memory picture)
