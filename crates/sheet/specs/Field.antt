-- One field by its tag (01, "Rows and pixels", the station's host program; "Screen sheet"). Assumes nothing.
use Rattle.std.specs.Prelude.{ℕ, ◌-◌, cond, ◌||◌, List, ltb, get_or}
use Rattle.sheet.specs.Reader.{read_sheet}
use Rattle.sheet.specs.declared.field.Answer.{Answer}

-- one field of a whole good sheet by its tag: a tag outside #21 to #2E gets 31 first
abbrev pub field_of : List ℕ → ℕ → Answer
field_of sheet tag =
    cond (ltb tag 0x21 || ltb 0x2E tag)
    (record { refusal = 31; value = 0 })
    (record { refusal = (read_sheet sheet).refusal; value = get_or (read_sheet sheet).values (tag - 0x21) 0 })
