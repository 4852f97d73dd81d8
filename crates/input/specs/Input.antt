-- Lines of input that comes in pieces (docs/SCRIPT.md): bytes up to LF, with a CR just before it. Assumes nothing.
use Rattle.std.specs.Prelude.{ℕ, ◌+◌, ◌-◌, Bool, true, false, cond, ◌&&◌, ◌||◌, List, [], ◌∷◌, ltb, eqb, length, get_or, take, drop}
use Rattle.std.proofs.lemmas.List.Edits.{sets}
use Rattle.input.specs.declared.Taken.{Taken}
use Rattle.input.specs.declared.Reader.{Reader}

-- the bytes in front of the first LF; all of them where there is none
unfoldable pub up_to_end : List ℕ → List ℕ
up_to_end [] = []
up_to_end (byte ∷ rest) = cond (eqb byte 10) [] (byte ∷ up_to_end rest)

-- there is an LF
unfoldable pub has_end : List ℕ → Bool
has_end [] = false
has_end (byte ∷ rest) = cond (eqb byte 10) true (has_end rest)

-- how many bytes a line takes of a piece: its own and its LF
abbrev pub line_size : List ℕ → ℕ
line_size piece = length (up_to_end piece) + cond (has_end piece) 1 0

-- of a line's bytes, those that a room has place for behind its first ones
abbrev pub placed : List ℕ → ℕ → List ℕ → List ℕ
placed room count bytes = take (length room - count) bytes

-- what is known after a piece was taken from a place on: the next byte, the bytes of the line, and whether it has ended
unfoldable pub taken_line : List ℕ → ℕ → List ℕ → ℕ → Taken
taken_line piece from room count =
    record {
      at = from + line_size (drop from piece);
      length = count + length (placed room count (up_to_end (drop from piece)));
      ended = has_end (drop from piece);
    }

-- the room then: the line's bytes behind its first ones
unfoldable pub taken_room : List ℕ → ℕ → List ℕ → ℕ → List ℕ
taken_room piece from room count = sets room count (placed room count (up_to_end (drop from piece)))

-- the bytes of a line, less a CR just before its end
abbrev pub line_of : List ℕ → ℕ → Bool → List ℕ
line_of room count ended = take (cond (ended && eqb (get_or room (count - 1) 0) 13) (count - 1) count) room

-- before the input's first byte
abbrev pub first_reader : Reader
first_reader = record { size = 0; taken = record { at = 0; length = 0; ended = false }; turns = 0xFFFFFFFFFFFFFFFF }

-- where the next bytes are taken from, at the front of a piece that is read; and how many the line has: none after one that has ended
abbrev pub next_from : Reader → ℕ
next_from r = cond (ltb r.taken.at r.size) r.taken.at 0

abbrev pub next_count : Reader → ℕ
next_count r = cond r.taken.ended 0 r.taken.length

-- what is read: a piece where the one before it is used up
abbrev pub read_anew : Reader → List ℕ → List ℕ
read_anew r piece = cond (ltb r.taken.at r.size) [] piece

-- a whole line has been taken: the last may lack its end
abbrev pub is_line : Reader → Bool
is_line r = r.taken.ended || (eqb r.turns 0 && ltb 0 r.taken.length)

-- one more, up to the largest number of 64 bits
abbrev pub one_more : ℕ → ℕ
one_more n = cond (ltb n 0xFFFFFFFFFFFFFFFF) (n + 1) n
