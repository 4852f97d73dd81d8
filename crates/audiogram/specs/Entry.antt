-- The palette entry of a pixel. Assumes nothing.
use Rattle.std.specs.Prelude.{ℕ, true, false, cond, List}
use Rattle.marks.specs.Ear.{shows}
use Rattle.form.specs.Form.{form}
use Rattle.marks.specs.declared.points.Point.{Point}

-- the palette entries: paper, right ear, left ear, form
abbrev pub paper_entry : ℕ
paper_entry = 0

abbrev pub right_entry : ℕ
right_entry = 1

abbrev pub left_entry : ℕ
left_entry = 2

abbrev pub form_entry : ℕ
form_entry = 3

-- THE ENTRY OF A PIXEL: the right ear over the left, both over the form
unfoldable pub entry_at : List ℕ → List ℕ → Point → ℕ
entry_at right left p =
    cond (shows true right p) right_entry (cond (shows false left p) left_entry (cond (form p) form_entry paper_entry))
