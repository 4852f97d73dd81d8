-- What is shown of a script (docs/SCRIPT.md), in each form: the page, and the bytes that wait on it. Assumes nothing.
use Rattle.std.specs.Prelude.{ℕ, zero, suc, ◌*◌, Bool, false, cond, ◌||◌, ◌&&◌, List, [], ◌∷◌, ◌++◌, ◌≡◌, eqb, length, take, get_or}
use Rattle.std.proofs.lemmas.List.Edits.{sets}
use Rattle.base.specs.Count.{run}
use Rattle.room.specs.Room.{put_texts, put_ends}
use Rattle.text.specs.Ascii.{ascii}
use Rattle.text.specs.Lines.{count_texts}
use Rattle.text.specs.Ppm.{ppm_texts}
use Rattle.signals.specs.declared.Signals.{Signals}
use Rattle.waveform.specs.Waveform.{head_text}
use Rattle.registers.specs.declared.Registers.{Registers}
use Rattle.generator.specs.Tick.{tick_of}
use Rattle.generator.specs.declared.Generator.{Generator}
use Rattle.generator.specs.declared.Ticked.{Ticked}
use Rattle.machine.specs.declared.Machine.{Machine}
use Rattle.weave.specs.declared.Weave.{Weave}
use Rattle.weave.specs.Weave.{byte_at, row_put}
use Rattle.calls.specs.Calls.{size_of}
use Rattle.calls.specs.Woven.{weave_of, Woven}
use Rattle.script.specs.Names.{kind_of, by_kind}
use Rattle.script.specs.declared.command.Command.{Command}
use Rattle.script.specs.Script.{skipped, line_command, ticks_of}
use Rattle.changes.specs.declared.Done.{Done}
use Rattle.changes.specs.Changes.{done_of, picture_after}
use Rattle.report.specs.Notes.{refused_texts, fault_texts}
use Rattle.report.specs.Pages.{blank_page, turned, spaced, next_line, counted, step_texts}
use Rattle.report.specs.declared.Page.{Page}
use Rattle.questions.specs.Answers.{Shown, shown_texts, verdict_shown, bytes_shown, answer_shown}

-- ---- before the first line and after the last

-- a waveform opens with its head
unfoldable pub open_shown : ℕ → List ℕ → Shown
open_shown form room = cond (eqb form 1) (shown_texts (blank_page form) room (head_text ∷ [])) (record { page = blank_page form; bytes = room })

-- and closes with the time past its last tick; what waits is written
unfoldable pub close_shown : Page → List ℕ → Shown
close_shown p room =
    record { page = turned p 0; bytes = cond (eqb p.form 1) (put_texts room p.waiting (count_texts (ascii "#") p.ticks)) room }

-- where a picture was drawn, the head of its PPM is put over what waited before
abbrev pub no_picture : Page → Bool
no_picture p = eqb p.width 0 || eqb p.height 0

abbrev pub head_shown : Page → List ℕ → List ℕ
head_shown p room = put_texts room 0 (ppm_texts p.width p.height)

-- the rows of an interlaced one from the top, each put over the one before it
abbrev pub page_weave : Page → Weave
page_weave p = weave_of (record { width = p.width; height = p.height; half = p.half })

unfoldable pub woven_shown : Weave → List ℕ → List ℕ → ℕ → List ℕ
woven_shown w picture room zero = room
woven_shown w picture room (suc row) =
    sets (woven_shown w picture room row) 0 (row_put w picture row (length (woven_shown w picture room row)))

-- and the same one after the other, each where a room has so many bytes
unfoldable pub rows_joined : Weave → List ℕ → ℕ → ℕ → List ℕ
rows_joined w picture size zero = []
rows_joined w picture size (suc row) = rows_joined w picture size row ++ row_put w picture row size

-- WHAT IS SHOWN OF THE LAST PICTURE: its head, and over it the rows of an interlaced one; those of any other stand in the picture as they are
unfoldable pub ppm_shown : Page → List ℕ → List ℕ → List ℕ
ppm_shown p picture room =
    cond (no_picture p) room
    (cond (eqb p.half 0) (head_shown p room)
    (woven_shown (page_weave p) picture (head_shown p room) p.height))

-- ---- ticks

-- a waveform shows the ticks of `tick` and of `run`, answers those of `tick`, a picture none
abbrev pub is_shown : ℕ → ℕ → Bool
is_shown form name = eqb form 1 || (eqb form 0 && eqb name 5)

-- a command that runs ticks which are shown
abbrev pub shows_ticks : ℕ → ℕ → Bool
shows_ticks form name = by_kind (kind_of name) false false (is_shown form name) false false

abbrev pub refused_shown : Page → List ℕ → ℕ → Shown
refused_shown p room refusal = shown_texts p room (refused_texts p.form p.lines refusal)

abbrev pub step_shown : Page → List ℕ → Signals → Shown
step_shown p room s =
    record { page = counted p (put_ends room p.waiting (step_texts p s)) s; bytes = put_texts room p.waiting (step_texts p s) }

-- a tick, or its refusal; before it, what waits is written where the room for more is short
unfoldable pub tick_shown : Page → List ℕ → ℕ → Signals → Shown
tick_shown p room refusal s =
    cond (eqb refusal 0) (step_shown (turned p (spaced p)) room s) (refused_shown (turned p (spaced p)) room refusal)

-- so many ticks, from a generator on; they end where one is refused
abbrev pub ticked_shown : Shown → Ticked → Shown
ticked_shown s t = tick_shown s.page s.bytes t.refusal t.signals

unfoldable pub ticks_shown : Registers → List ℕ → Generator → Shown → ℕ → Shown
ticks_shown r memory g s zero = s
ticks_shown r memory g s (suc more) =
    cond (eqb (tick_of r memory g).refusal 0)
    (ticks_shown r memory (tick_of r memory g).next (ticked_shown s (tick_of r memory g)) more)
    (ticked_shown s (tick_of r memory g))

-- ticks that are not shown: how many were done, which is kept in answers alone, and a refusal where there is one
abbrev pub ran_texts : ℕ → List (List ℕ)
ran_texts done = count_texts (ascii "ran ") done

abbrev pub ran_page : Page → List ℕ → ℕ → Page
ran_page p room done = turned p (cond (eqb p.form 0) (put_ends room p.waiting (ran_texts done)) p.waiting)

unfoldable pub run_shown : Page → List ℕ → ℕ → ℕ → Shown
run_shown p room done refusal =
    cond (eqb refusal 0)
    (record { page = ran_page p room done; bytes = put_texts room p.waiting (ran_texts done) })
    (refused_shown (ran_page p room done) (put_texts room p.waiting (ran_texts done)) refusal)

-- ---- commands

-- a page with a picture's size
abbrev pub sized : Page → ℕ → ℕ → ℕ → Page
sized p width height half =
    record { form = p.form; lines = p.lines; waiting = p.waiting; ticks = p.ticks; last = p.last; width = width; height = height; half = half }

-- a picture that is not refused has its size kept
abbrev pub drawn_page : Page → Machine → ℕ → Page
drawn_page p m refusal =
    sized p (cond (eqb refusal 0) (size_of m).width p.width)
    (cond (eqb refusal 0) (size_of m).height p.height)
    (cond (eqb refusal 0) (size_of m).half p.half)

-- and its bytes are shown
unfoldable pub picture_shown : Page → Machine → List ℕ → List ℕ → ℕ → ℕ → Shown
picture_shown p m picture room refusal count = bytes_shown (drawn_page p m refusal) room refusal (take count picture)

-- the file of an interlaced picture that a machine has drawn: woven as a tube shows it, and the rows that are put are all its bytes in order
pub record InterlacedFile (p : Page) (m : Machine) : Type 0 where
  pub woven : Woven m.regs (page_weave (drawn_page p m 0))
  pub rows : (picture : List ℕ) → rows_joined (page_weave (drawn_page p m 0)) picture 65536 (size_of m).height ≡ run (byte_at (page_weave (drawn_page p m 0)) picture) 0 (3 * (size_of m).height * (size_of m).width)

-- WHAT IS SHOWN OF A COMMAND whose ticks are not shown, by what it has done
unfoldable pub result_shown : Page → Command → Done → List ℕ → List ℕ → Shown
result_shown p c d picture room =
    by_kind (kind_of c.name)
    (verdict_shown p room d.refusal)
    (verdict_shown p room d.refusal)
    (run_shown p room d.ticks d.refusal)
    (picture_shown p d.machine picture room d.refusal (get_or c.left.values 0 0))
    (answer_shown p c d.machine room)

-- WHAT IS SHOWN OF A GOOD COMMAND. d: what was done before it, with the machine and how many bytes of `memory` are lent
unfoldable pub command_shown : Page → Command → Done → List ℕ → List ℕ → List ℕ → Shown
command_shown p c d memory picture room =
    cond (shows_ticks p.form c.name)
    (ticks_shown d.machine.regs (take d.memory memory) d.machine.generator (record { page = p; bytes = room }) (ticks_of c))
    (result_shown p c (done_of c d.machine d.memory memory (length picture)) (picture_after c d.machine d.memory memory picture) room)

-- WHAT IS SHOWN OF A LINE: nothing where it is skipped, else its command's or its fault
unfoldable pub line_shown : List ℕ → Page → Done → List ℕ → List ℕ → List ℕ → Shown
line_shown line p d memory picture room =
    cond (skipped line) (record { page = next_line p; bytes = room })
    (cond (eqb (line_command line d.memory).fault 0)
    (command_shown (next_line p) (line_command line d.memory) d memory picture room)
    (shown_texts (next_line p) room (fault_texts p.form (next_line p).lines (line_command line d.memory).fault)))
