-- What `memory`, `poke` and `fill` leave in the memory lent (docs/SCRIPT.md). Assumes nothing.
use Rattle.std.specs.Prelude.{ℕ, cond, List, eqb, get_or}
use Rattle.room.specs.Room.{put_text}
use Rattle.room.specs.Bytes.{fill_memory, poke_bytes}
use Rattle.script.specs.declared.command.Command.{Command}

-- number k of a command
abbrev pub number : Command → ℕ → ℕ
number c k = get_or c.left.values k 0

-- the bytes after `memory` (2), `poke` (3) and `fill` (4); any other command leaves them as they were
unfoldable pub memory_after : Command → List ℕ → List ℕ
memory_after c memory =
    cond (eqb c.name 2)
    (fill_memory memory 0 (number c 0) 0 0)
    (cond (eqb c.name 3)
    (put_text memory (number c 0) (poke_bytes c.left.values c.left.count))
    (cond (eqb c.name 4)
    (fill_memory memory (number c 0) (number c 1) (number c 2) (number c 3))
    memory))

-- how many bytes are lent from then on: `memory` alone changes it
unfoldable pub lent_after : Command → ℕ → ℕ
lent_after c lent = cond (eqb c.name 2) (number c 0) lent
