-- Writing a sheet (01, "Screen sheet"; "Refusal numbers", 34 and 35). Assumes nothing.
use Rattle.std.specs.Prelude.{ℕ, cond, List, ◌++◌, ltb, eqb, length, drop}
use Rattle.sheet.specs.Encoding.{encoding, over}

-- 34, then 35 for a room of fewer than 70 bytes; 0 is none
abbrev pub write_refusal : List ℕ → List ℕ → ℕ
write_refusal values room = cond (over values) 34 (cond (ltb (length room) 70) 35 0)

-- the room afterwards: the sheet, then what stood past byte 70; as it was where refused
abbrev pub room_written : List ℕ → List ℕ → List ℕ
room_written values room = cond (eqb (write_refusal values room) 0) (encoding values ++ drop 70 room) room
