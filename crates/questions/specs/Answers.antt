-- What is shown of the commands that only ask (docs/SCRIPT.md), in each form: the page, and the bytes that wait on it. Assumes nothing.
use Rattle.std.specs.Prelude.{ℕ, zero, suc, ◌+◌, ◌/◌, Bool, cond, ◌||◌, not, List, [], ◌∷◌, eqb, length, take, drop}
use Rattle.room.specs.Room.{put_texts, put_ends}
use Rattle.text.specs.Rows.{row_texts}
use Rattle.machine.specs.declared.Machine.{Machine}
use Rattle.script.specs.declared.command.Command.{Command}
use Rattle.paperwork.specs.Store.{stored_of}
use Rattle.report.specs.Pages.{turned, spaced, verdict_texts}
use Rattle.report.specs.declared.Page.{Page}
use Rattle.questions.specs.Questions.{find_refusal, find_texts}

-- what has been shown so far: the page, and the bytes lent to it
pub record Shown : Type 0 where
  pub page : Page
  pub bytes : List ℕ

-- texts put after what waits
abbrev pub shown_texts : Page → List ℕ → List (List ℕ) → Shown
shown_texts p room texts = record { page = turned p (put_ends room p.waiting texts); bytes = put_texts room p.waiting texts }

-- only a verdict is due: of a refused command, and of any in a form that is not answers
abbrev pub is_brief : Page → ℕ → Bool
is_brief p refusal = not (eqb refusal 0) || not (eqb p.form 0)

abbrev pub verdict_shown : Page → List ℕ → ℕ → Shown
verdict_shown p room refusal = shown_texts p room (verdict_texts p.form p.lines refusal)

-- bytes in hexadecimal, 32 a line
unfoldable pub rows_of : ℕ → List ℕ → List (List (List ℕ))
rows_of zero bytes = []
rows_of (suc more) bytes = row_texts (take 32 bytes) ∷ rows_of more (drop 32 bytes)

unfoldable pub lines_of : List ℕ → List (List (List ℕ))
lines_of bytes = rows_of ((length bytes + 31) / 32) bytes

-- lines put after what waits; before each, what waits is written where the room for more is short
unfoldable pub lines_shown : Shown → List (List (List ℕ)) → Shown
lines_shown s [] = s
lines_shown s (line ∷ rest) = lines_shown (shown_texts (turned s.page (spaced s.page)) s.bytes line) rest

unfoldable pub rows_shown : Page → List ℕ → List ℕ → Shown
rows_shown p room bytes = lines_shown (record { page = p; bytes = room }) (lines_of bytes)

-- bytes that were asked for: the verdict, and the lines where more is due
unfoldable pub bytes_shown : Page → List ℕ → ℕ → List ℕ → Shown
bytes_shown p room refusal bytes =
    cond (is_brief p refusal) (verdict_shown p room refusal) (rows_shown (verdict_shown p room refusal).page (verdict_shown p room refusal).bytes bytes)

-- what was found out: put after what waits, and where only a verdict is due, that put over it
unfoldable pub found_shown : Page → List ℕ → ℕ → List (List ℕ) → Shown
found_shown p room refusal texts =
    cond (is_brief p refusal) (verdict_shown p (put_texts room p.waiting texts) refusal) (shown_texts p room texts)

-- THE ANSWER OF A COMMAND THAT ONLY ASKS
unfoldable pub answer_shown : Page → Command → Machine → List ℕ → Shown
answer_shown p c m room =
    cond (eqb c.name 11)
    (bytes_shown p room (stored_of c).refusal (take (stored_of c).room (stored_of c).bytes))
    (found_shown p room (find_refusal c m) (find_texts c m))
