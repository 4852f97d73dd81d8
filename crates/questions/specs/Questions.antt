-- What the commands that only ask find out (docs/SCRIPT.md): the refusal or 0, and the answer as its texts in order. Assumes nothing.
use Rattle.std.specs.Prelude.{ℕ, ◌-◌, cond, List, [], ◌∷◌, ◌++◌, eqb, get_or, take}
use Rattle.room.specs.Bytes.{bytes_from}
use Rattle.text.specs.Ascii.{ascii}
use Rattle.text.specs.Hex.{hex_text}
use Rattle.text.specs.Lines.{line_end, count_texts}
use Rattle.text.specs.Rows.{values_texts}
use Rattle.sheet.specs.Reader.{read_sheet}
use Rattle.sheet.specs.Field.{field_of}
use Rattle.sheet.specs.declared.Sheet.{Sheet}
use Rattle.sheet.specs.declared.field.Answer.{Answer}
use Rattle.vault.specs.Compare.{compared}
use Rattle.vault.specs.declared.Comparison.{Comparison}
use Rattle.machine.specs.Rules.{answered}
use Rattle.machine.specs.declared.Machine.{Machine}
use Rattle.calls.specs.Nine.{nine_of}
use Rattle.script.specs.declared.command.Command.{Command}
use Rattle.report.specs.Phrases.{colour_texts}

-- `read`: the value
unfoldable pub read_texts : Machine → ℕ → List (List ℕ)
read_texts m address = hex_text (answered m address).value ∷ line_end ∷ []

-- `nine`: the three words, that of #0C0 first, a blank between them
unfoldable pub nine_texts : Machine → List (List ℕ)
nine_texts m =
    hex_text (get_or (nine_of m).words 0 0)
    ∷ (colour_texts (get_or (nine_of m).words 1 0)
    ++ (colour_texts (get_or (nine_of m).words 2 0)
    ++ (line_end ∷ [])))

-- `sheet`: `ok` and the fourteen values
unfoldable pub sheet_asked : Command → Sheet
sheet_asked c = read_sheet (take c.left.count (bytes_from c.left.values 0))

unfoldable pub sheet_texts : Command → List (List ℕ)
sheet_texts c = ascii "ok" ∷ values_texts (sheet_asked c).values

-- `field`: the value of the tag that comes first
unfoldable pub field_asked : Command → Answer
field_asked c = field_of (take (c.left.count - 1) (bytes_from c.left.values 1)) (get_or c.left.values 0 0)

unfoldable pub field_texts : Command → List (List ℕ)
field_texts c = count_texts [] (field_asked c).value

-- `compare`: whether the two sides are equal
unfoldable pub compare_asked : Command → Comparison
compare_asked c = compared (take c.left.count (bytes_from c.left.values 0)) (take c.right.count (bytes_from c.right.values 0))

unfoldable pub compare_texts : Command → List (List ℕ)
compare_texts c = cond (compare_asked c).equal (ascii "same\n") (ascii "different\n") ∷ []

-- by a command's name: what is neither `read` nor `nine`, `sheet` nor `field` is taken for `compare`
unfoldable pub by_name : {A : Type 0} → ℕ → A → A → A → A → A → A
by_name name read nine sheet field compare =
    cond (eqb name 1) read
    (cond (eqb name 8) nine
    (cond (eqb name 9) sheet
    (cond (eqb name 10) field
    compare)))

-- what a command other than `store` finds out
unfoldable pub find_refusal : Command → Machine → ℕ
find_refusal c m =
    by_name c.name
    (answered m (get_or c.left.values 0 0)).refusal
    (nine_of m).refusal
    (sheet_asked c).refusal
    (field_asked c).refusal
    (compare_asked c).refusal

unfoldable pub find_texts : Command → Machine → List (List ℕ)
find_texts c m = by_name c.name (read_texts m (get_or c.left.values 0 0)) (nine_texts m) (sheet_texts c) (field_texts c) (compare_texts c)
