-- What is shown of a refusal or a fault (docs/SCRIPT.md), in each form: 0 answers, 1 a waveform, 2 a picture. Assumes nothing.
use Rattle.std.specs.Prelude.{ℕ, cond, List, [], ◌∷◌, ◌++◌, eqb}
use Rattle.text.specs.Ascii.{ascii}
use Rattle.text.specs.Decimal.{decimal_text}
use Rattle.text.specs.Lines.{line_end, count_texts}
use Rattle.report.specs.Phrases.{reason_text}

-- what names a line of the script: `error LINE ` in answers, elsewhere a note, `line LINE: `, which in a waveform is a comment
abbrev pub open_text : ℕ → List ℕ
open_text form = cond (eqb form 0) (ascii "error ") (cond (eqb form 1) (ascii "$comment line ") (ascii "line "))

abbrev pub close_text : ℕ → List ℕ
close_text form = cond (eqb form 1) (ascii " $end\n") line_end

abbrev pub head_texts : ℕ → ℕ → List (List ℕ)
head_texts form line = open_text form ∷ decimal_text line ∷ cond (eqb form 0) (ascii " ") (ascii ": ") ∷ []

-- a refusal: `refused N`, or a note of it
unfoldable pub refused_texts : ℕ → ℕ → ℕ → List (List ℕ)
refused_texts form line refusal =
    cond (eqb form 0) (count_texts (ascii "refused ") refusal)
    (head_texts form line ++ (ascii "refused " ∷ decimal_text refusal ∷ close_text form ∷ []))

-- a fault: `error LINE REASON`, or a note of it
unfoldable pub fault_texts : ℕ → ℕ → ℕ → List (List ℕ)
fault_texts form line fault = head_texts form line ++ (reason_text fault ∷ close_text form ∷ [])
