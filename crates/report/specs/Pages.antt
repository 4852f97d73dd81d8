-- A page: what has been shown of a script so far, and what is shown next, by its form. Assumes nothing.
use Rattle.std.specs.Prelude.{ℕ, cond, List, [], ◌∷◌, ltb, eqb}
use Rattle.input.specs.Input.{one_more}
use Rattle.signals.specs.Signals.{silent}
use Rattle.signals.specs.declared.Signals.{Signals}
use Rattle.text.specs.Ascii.{ascii}
use Rattle.report.specs.Notes.{refused_texts}
use Rattle.report.specs.TickLines.{tick_line_texts}
use Rattle.waveform.specs.Waveform.{tick_texts}
use Rattle.report.specs.declared.Page.{Page}

-- before a script's first line
abbrev pub blank_page : ℕ → Page
blank_page form = record { form = form; lines = 0; waiting = 0; ticks = 0; last = silent; width = 0; height = 0; half = 0 }

-- a page on which other bytes wait
abbrev pub turned : Page → ℕ → Page
turned p waiting = record { form = p.form; lines = p.lines; waiting = waiting; ticks = p.ticks; last = p.last; width = p.width; height = p.height; half = p.half }

-- what waits once there is room for a line more
abbrev pub spaced : Page → ℕ
spaced p = cond (ltb p.waiting 32768) p.waiting 0

-- the page at the next line
abbrev pub next_line : Page → Page
next_line p = record { form = p.form; lines = one_more p.lines; waiting = spaced p; ticks = p.ticks; last = p.last; width = p.width; height = p.height; half = p.half }

-- and after one tick more
abbrev pub counted : Page → ℕ → Signals → Page
counted p waiting s =
    record { form = p.form; lines = p.lines; waiting = waiting; ticks = one_more p.ticks; last = s; width = p.width; height = p.height; half = p.half }

-- a command that may be refused: in answers `ok`, elsewhere nothing unless it is refused
unfoldable pub verdict_texts : ℕ → ℕ → ℕ → List (List ℕ)
verdict_texts form line refusal =
    cond (eqb refusal 0) (cond (eqb form 0) (ascii "ok\n" ∷ []) []) (refused_texts form line refusal)

-- a tick: its line in answers, its changes in a waveform, and nothing for a picture
unfoldable pub step_texts : Page → Signals → List (List ℕ)
step_texts p s =
    cond (eqb p.form 0) (tick_line_texts s)
    (cond (eqb p.form 1) (tick_texts (eqb p.ticks 0) p.ticks p.last s)
    [])
