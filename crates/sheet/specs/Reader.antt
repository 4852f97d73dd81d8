-- Reading a sheet (01, "Screen sheet"; "Refusal numbers", 30 to 33): left to right, one field after the other. Assumes nothing.
use Rattle.std.specs.Prelude.{ℕ, ◌+◌, ◌*◌, not, cond, List, [], ◌∷◌, ltb, eqb, length, get_or, drop, replicate}
use Rattle.sheet.specs.Encoding.{tags}
use Rattle.sheet.specs.declared.Sheet.{Sheet}

-- two bytes as a number, high byte first
abbrev pub pair : List ℕ → ℕ → ℕ
pair bytes at = 256 * get_or bytes at 0 + get_or bytes (at + 1) 0

-- the field that begins the bytes left: 30 with fewer than three of them, 31, 32, then 30 with fewer than two past those three; 0 is none
abbrev pub field_refusal : ℕ → List ℕ → ℕ
field_refusal tag left =
    cond (ltb (length left) 3) 30
    (cond (not (eqb (get_or left 0 0) tag)) 31
    (cond (not (eqb (pair left 1) 2)) 32
    (cond (ltb (length left) (3 + 2)) 30
    0)))

-- a field for each tag due, then 33 if bytes are left over
unfoldable pub refusal_from : List ℕ → List ℕ → ℕ
refusal_from [] left = cond (eqb (length left) 0) 0 33
refusal_from (tag ∷ due) left =
    cond (eqb (field_refusal tag left) 0) (refusal_from due (drop 5 left)) (field_refusal tag left)

-- the value of each field due
unfoldable pub values_from : List ℕ → List ℕ → List ℕ
values_from [] left = []
values_from (tag ∷ due) left = pair left 3 ∷ values_from due (drop 5 left)

-- the whole of a reading: a refused sheet answers its number, and 0 for every value
abbrev pub read_sheet : List ℕ → Sheet
read_sheet sheet =
    record {
      refusal = refusal_from tags sheet;
      values = cond (eqb (refusal_from tags sheet) 0) (values_from tags sheet) (replicate 14 0);
    }
