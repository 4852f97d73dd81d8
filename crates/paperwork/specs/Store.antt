-- What `store` leaves in its room (docs/SCRIPT.md): fourteen values written as a sheet. Assumes nothing.
use Rattle.std.specs.Prelude.{ℕ, ◌+◌, List, ◌++◌, get_or, take, drop, replicate}
use Rattle.sheet.specs.Writer.{write_refusal, room_written}
use Rattle.room.specs.Room.{laid}
use Rattle.script.specs.declared.command.Command.{Command}
use Rattle.paperwork.specs.declared.store.Stored.{Stored}

-- the values of the sheet: the fourteen numbers past the first
abbrev pub sheet_values : List ℕ → List ℕ
sheet_values numbers = laid (λ k. get_or numbers (1 + k) 0) (replicate 14 0) 0 14

-- a sheet written into the first bytes of a room; those past them stand
abbrev pub written_into : List ℕ → List ℕ → ℕ → List ℕ
written_into values room count = room_written values (take count room) ++ drop count room

-- eighty bytes of #AA, of which the first number says how many are the room
abbrev pub room_before : List ℕ
room_before = replicate 80 0xAA

-- what `store` answers: the refusal, the room, and the bytes
unfoldable pub stored_of : Command → Stored
stored_of c =
    record {
      refusal = write_refusal (sheet_values c.left.values) (take (get_or c.left.values 0 0) room_before);
      room = get_or c.left.values 0 0;
      bytes = written_into (sheet_values c.left.values) room_before (get_or c.left.values 0 0);
    }
