-- What a good command does (docs/SCRIPT.md). c: the command, m: the machine, lent: how many bytes of `memory` are lent, room: how many bytes a
-- picture has room for. Assumes nothing.
use Rattle.std.specs.Prelude.{ℕ, List, ◌++◌, length, take, drop}
use Prim.Native.Nat.{min}
use Rattle.machine.specs.Rules.{written}
use Rattle.machine.specs.declared.Machine.{Machine}
use Rattle.picture.specs.Picture.{buffer_of}
use Rattle.picture.specs.Machines.{pictured}
use Rattle.calls.specs.Calls.{ran_of}
use Rattle.script.specs.Names.{kind_of, by_kind}
use Rattle.script.specs.declared.command.Command.{Command}
use Rattle.script.specs.Script.{ticks_of}
use Rattle.changes.specs.LentMemory.{number, lent_after}
use Rattle.changes.specs.declared.Done.{Done}

-- `write ADDRESS VALUE`
unfoldable pub write_done : Machine → ℕ → ℕ → ℕ → Done
write_done m lent address value =
    record { refusal = (written m address value).refusal; ticks = 0; memory = lent; machine = (written m address value).machine }

-- `tick COUNT` or `run COUNT`, with the bytes lent
unfoldable pub run_done : Machine → ℕ → List ℕ → ℕ → Done
run_done m lent bytes count =
    record { refusal = (ran_of bytes m count).refusal; ticks = (ran_of bytes m count).done; memory = lent; machine = (ran_of bytes m count).machine }

-- so many bytes as are asked for and are there
abbrev pub within : ℕ → ℕ → ℕ
within wanted room = min wanted room

-- `picture LENGTH`, with the bytes lent
unfoldable pub draw_done : Machine → ℕ → List ℕ → ℕ → Done
draw_done m lent bytes size =
    record { refusal = (pictured m bytes size).refusal; ticks = 0; memory = lent; machine = (pictured m bytes size).machine }

-- what only changes the memory or asks leaves the machine as it was
abbrev pub kept_done : Command → Machine → ℕ → Done
kept_done c m lent = record { refusal = 0; ticks = 0; memory = lent_after c lent; machine = m }

-- WHAT A GOOD COMMAND DOES, by the machine's own rules
unfoldable pub done_of : Command → Machine → ℕ → List ℕ → ℕ → Done
done_of c m lent memory room =
    by_kind (kind_of c.name)
    (write_done m lent (number c 0) (number c 1))
    (kept_done c m lent)
    (run_done m lent (take lent memory) (ticks_of c))
    (draw_done m lent (take lent memory) (within (number c 0) room))
    (kept_done c m lent)

-- the picture's room after a picture that is drawn, which stands at its beginning
abbrev pub drawn_after : Command → Machine → ℕ → List ℕ → List ℕ → List ℕ
drawn_after c m lent memory picture =
    buffer_of m.regs (take lent memory) m.generator (take (within (number c 0) (length picture)) picture)
    ++ drop (within (number c 0) (length picture)) picture

-- and after any command
unfoldable pub picture_after : Command → Machine → ℕ → List ℕ → List ℕ → List ℕ
picture_after c m lent memory picture = by_kind (kind_of c.name) picture picture picture (drawn_after c m lent memory picture) picture
