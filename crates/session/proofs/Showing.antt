-- What is shown of a script, case by case. Assumes nothing.
use Prim.Native.Nat.{ℕ, suc, ◌+◌, ◌-◌, ◌≤◌, ◌<◌}
use mathlib.Core.Bool.{Bool, true, false, cond}
use mathlib.Core.List.{List}
use mathlib.Core.Path.{◌≡◌, refl, ap, sym, ◌∙◌}
use lib.Dec.{eqb}
use lib.ListN.{length, take, get_or}
use lib.Seq.{sets}
use native.Mathlib.Numerals.{add-one}
use native.Mathlib.Omega.{arith}
use borrow.Author.Tests.{eq-eqb, ne_eqb, eqb-false}
use Rattle.base.proofs.Bools.{neither_holds}
use Rattle.room.specs.Room.{put_text, put_end, put_texts, put_ends}
use Rattle.room.proofs.Laying.{put_one}
use Rattle.text.specs.Ascii.{ascii}
use Rattle.text.specs.Lines.{count_texts}
use Rattle.signals.specs.declared.Signals.{Signals}
use Rattle.waveform.specs.Waveform.{head_text}
use Rattle.registers.specs.declared.Registers.{Registers}
use Rattle.generator.specs.Tick.{tick_of}
use Rattle.generator.specs.declared.Generator.{Generator}
use Rattle.generator.specs.declared.Ticked.{Ticked}
use Rattle.machine.specs.declared.Machine.{Machine}
use Rattle.weave.specs.declared.Weave.{Weave}
use Rattle.weave.specs.Weave.{row_put}
use Rattle.calls.specs.Calls.{size_of}
use Rattle.calls.specs.declared.Size.{Size}
use mathlib.Core.Logic.{◌⊎◌}
use Rattle.script.specs.Names.{kind_of}
use Rattle.script.specs.declared.names.Kind.{Kind}
use Rattle.script.specs.declared.names.Kind.TheVariants.{WritesRegister, ChangesMemory, RunsTicks, DrawsPicture, OnlyAsks}
use Rattle.script.specs.declared.command.Command.{Command}
use Rattle.script.specs.Script.{skipped, line_command, ticks_of}
use Rattle.changes.specs.declared.Done.{Done}
use Rattle.changes.specs.Changes.{done_of, picture_after}
use Rattle.report.specs.Notes.{fault_texts}
use Rattle.report.specs.Pages.{blank_page, turned, spaced, next_line}
use Rattle.report.specs.declared.Page.{Page}
use Rattle.questions.specs.Answers.{Shown, shown_texts, verdict_shown, bytes_shown, answer_shown}
use Rattle.session.specs.Shows.{open_shown, close_shown, no_picture, head_shown, page_weave, woven_shown, ppm_shown, shows_ticks, refused_shown, step_shown, tick_shown, ticks_shown, ran_texts, run_shown, sized, picture_shown, result_shown, command_shown, line_shown}

-- a page and its bytes are what is shown
abbrev pub Leaves : Shown → Page → List ℕ → Type 0
Leaves s page bytes = (page ≡ s.page) × (bytes ≡ s.bytes)

pub leaves : (s t : Shown) → s ≡ t → (page : Page) (bytes : List ℕ) → Leaves t page bytes → Leaves s page bytes
leaves s t e page bytes l = (l.0 ∙ ap (λ (x : Shown). x.page) (sym e), l.1 ∙ ap (λ (x : Shown). x.bytes) (sym e))

-- ---- before the first line and after the last

module _ (form : ℕ) (room : List ℕ) (blank : Page) (b : blank ≡ blank_page form) where
  pub open_wave : form ≡ 1 → (page : Page) (after : List ℕ) (end : ℕ) → end ≡ put_end room 0 (length head_text) → after ≡ put_text room 0 head_text → page ≡ turned blank end → Leaves (open_shown form room) page after
  unfolding open_shown
  open_wave h page after end e f t =
      let puts = put_one room 0 after end head_text e f in
      rw (eq-eqb form 1 h) (t ∙ ap (λ q. turned q end) b ∙ ap (turned (blank_page form)) puts.place, puts.bytes)

  pub open_other : (form ≡ 1 → ⊥) → Leaves (open_shown form room) blank room
  unfolding open_shown
  open_other h = rw (ne_eqb form 1 h) (b, refl)

module _ (p : Page) (room : List ℕ) where
  pub close_wave : p.form ≡ 1 → (page last : Page) (after : List ℕ) (end : ℕ) → after ≡ put_texts room p.waiting (count_texts (ascii "#") p.ticks) → last ≡ turned p end → page ≡ turned last 0 → Leaves (close_shown p room) page after
  unfolding close_shown
  close_wave h page last after end f t w = rw (eq-eqb p.form 1 h) (w ∙ ap (λ q. turned q 0) t, f)

  pub close_other : (p.form ≡ 1 → ⊥) → (page : Page) → page ≡ turned p 0 → Leaves (close_shown p room) page room
  unfolding close_shown
  close_other h page w = rw (ne_eqb p.form 1 h) (w, refl)

-- no row yet, and one more
pub woven_none : (w : Weave) (picture room : List ℕ) → room ≡ woven_shown w picture room 0
unfolding woven_shown
woven_none w picture room = refl

pub woven_next : (w : Weave) (picture room before after : List ℕ) (row : ℕ) → before ≡ woven_shown w picture room row → after ≡ sets before 0 (row_put w picture row (length before)) → after ≡ woven_shown w picture room (row + 1)
unfolding woven_shown
woven_next w picture room before after row e f = f ∙ rw (add-one row, e)

-- a picture drawn has a row
pub ppm_high : (p : Page) → no_picture p ≡ false → 0 < p.height
ppm_high p h = omega (arith, eqb-false p.height 0 (neither_holds (eqb p.width 0) (eqb p.height 0) h).1)

module _ (p : Page) (picture room : List ℕ) where
  pub ppm_none : no_picture p ≡ true → room ≡ ppm_shown p picture room
  unfolding ppm_shown
  ppm_none h = rw h refl

  module _ (h : no_picture p ≡ false) (head : List ℕ) (e : head ≡ head_shown p room) where
    pub ppm_drawn : p.half ≡ 0 → head ≡ ppm_shown p picture room
    unfolding ppm_shown
    ppm_drawn z = rw (h, eq-eqb p.half 0 z) e

    pub ppm_woven : (p.half ≡ 0 → ⊥) → (after : List ℕ) → after ≡ woven_shown (page_weave p) picture head p.height → after ≡ ppm_shown p picture room
    unfolding ppm_shown
    ppm_woven z after f = rw (h, ne_eqb p.half 0 z) (f ∙ rw e)

-- ---- ticks

module _ (p : Page) (room : List ℕ) (refusal : ℕ) (s : Signals) (page : Page) (e : page ≡ turned p (spaced p)) where
  pub tick_good : refusal ≡ 0 → tick_shown p room refusal s ≡ step_shown page room s
  unfolding tick_shown
  tick_good h = rw (eq-eqb refusal 0 h, e)

  pub tick_refused : (refusal ≡ 0 → ⊥) → tick_shown p room refusal s ≡ refused_shown page room refusal
  unfolding tick_shown
  tick_refused h = rw (ne_eqb refusal 0 h, e)

abbrev pub shown : Page → List ℕ → Shown
shown page bytes = record { page = page; bytes = bytes }

module _ (r : Registers) (memory : List ℕ) (g : Generator) (page : Page) (room : List ℕ) where
  -- all are left
  pub ticks_all : (count : ℕ) → ticks_shown r memory g (shown page room) (count - 0) ≡ ticks_shown r memory g (shown page room) count
  ticks_all count = let z : count - 0 ≡ count = omega arith in ap (ticks_shown r memory g (shown page room)) z

  -- none is left
  pub ticks_none : (count done : ℕ) → count ≤ done → ticks_shown r memory g (shown page room) (count - done) ≡ shown page room
  unfolding ticks_shown
  ticks_none count done h =
      let z : count - done ≡ 0 = omega arith in
      ap (ticks_shown r memory g (shown page room)) z

  -- one tick more
  module _ (t : Ticked) (e : t ≡ tick_of r memory g) (next : Page) (after : List ℕ) (l : Leaves (tick_shown page room t.refusal t.signals) next after) (count done : ℕ) (h : done < count) where
    left : count - done ≡ suc (count - (done + 1))
    left = omega arith

    pub ticks_next : t.refusal ≡ 0 → ticks_shown r memory t.next (shown next after) (count - (done + 1)) ≡ ticks_shown r memory g (shown page room) (count - done)
    unfolding ticks_shown
    ticks_next z = rw (left, ← e, eq-eqb t.refusal 0 z, l.0, l.1)

    pub ticks_refused : (t.refusal ≡ 0 → ⊥) → ticks_shown r memory g (shown page room) (count - done) ≡ shown next after
    unfolding ticks_shown
    ticks_refused z = rw (left, ← e, ne_eqb t.refusal 0 z, l.0, l.1)

module _ (p : Page) (room : List ℕ) (done refusal end waiting : ℕ) (page : Page) (between : List ℕ) (e : end ≡ put_ends room p.waiting (ran_texts done)) (w : waiting ≡ cond (eqb p.form 0) end p.waiting) (t : page ≡ turned p waiting) (f : between ≡ put_texts room p.waiting (ran_texts done)) where
  pub run_good : refusal ≡ 0 → run_shown p room done refusal ≡ record { page = page; bytes = between }
  unfolding run_shown
  run_good h = rw (eq-eqb refusal 0 h, t, w, e, f)

  pub run_refused : (refusal ≡ 0 → ⊥) → run_shown p room done refusal ≡ refused_shown page between refusal
  unfolding run_shown
  run_refused h = rw (ne_eqb refusal 0 h, t, w, e, f)

-- ---- commands

pub picture_shown_lem : (p : Page) (m : Machine) (picture room : List ℕ) (refusal count : ℕ) (size : Size) → size ≡ size_of m → (width : ℕ) → width ≡ cond (eqb refusal 0) size.width p.width → (height : ℕ) → height ≡ cond (eqb refusal 0) size.height p.height → (half : ℕ) → half ≡ cond (eqb refusal 0) size.half p.half → (part : List ℕ) → part ≡ take count picture → picture_shown p m picture room refusal count ≡ bytes_shown (sized p width height half) room refusal part
unfolding picture_shown
picture_shown_lem p m picture room refusal count size e width w height h half k part f = rw (w, h, k, e, f)

module _ (p : Page) (c : Command) (d : Done) (picture room : List ℕ) where
  pub result_run : RunsTicks ≡ kind_of c.name → result_shown p c d picture room ≡ run_shown p room d.ticks d.refusal
  unfolding result_shown
  result_run k = rw (← k) refl

  pub result_picture : DrawsPicture ≡ kind_of c.name → result_shown p c d picture room ≡ picture_shown p d.machine picture room d.refusal (get_or c.left.values 0 0)
  unfolding result_shown
  result_picture k = rw (← k) refl

  pub result_answer : OnlyAsks ≡ kind_of c.name → result_shown p c d picture room ≡ answer_shown p c d.machine room
  unfolding result_shown
  result_answer k = rw (← k) refl

  pub result_verdict : (k : Kind) → k ≡ kind_of c.name → (k ≡ WritesRegister) ⊎ (k ≡ ChangesMemory) → result_shown p c d picture room ≡ verdict_shown p room d.refusal
  unfolding result_shown
  result_verdict k e (◌⊎◌.inl h) = rw (← e, h) refl
  result_verdict k e (◌⊎◌.inr h) = rw (← e, h) refl

-- by the test that the code makes
module _ (p : Page) (c : Command) (d : Done) (memory picture room : List ℕ) (b : Bool) (eb : b ≡ shows_ticks p.form c.name) where
  pub command_ticks : b ≡ true → (part : List ℕ) → part ≡ take d.memory memory → (count : ℕ) → count ≡ ticks_of c → command_shown p c d memory picture room ≡ ticks_shown d.machine.regs part d.machine.generator (shown p room) count
  unfolding command_shown
  command_ticks h part f count n = rw (← eb, h, f, n)

  pub command_result : b ≡ false → (n : Done) → n ≡ done_of c d.machine d.memory memory (length picture) → (colours : List ℕ) → colours ≡ picture_after c d.machine d.memory memory picture → command_shown p c d memory picture room ≡ result_shown p c n colours room
  unfolding command_shown
  command_result h n f colours g = rw (← eb, h, f, g)

-- ---- lines

module _ (line : List ℕ) (p : Page) (d : Done) (memory picture room : List ℕ) (page : Page) (e : page ≡ next_line p) (b : Bool) (eb : b ≡ skipped line) where
  pub line_skipped : b ≡ true → line_shown line p d memory picture room ≡ shown page room
  unfolding line_shown
  line_skipped h = rw (← eb, h, e)

  module _ (h : b ≡ false) (c : Command) (ec : c ≡ line_command line d.memory) where
    pub line_good : c.fault ≡ 0 → line_shown line p d memory picture room ≡ command_shown page c d memory picture room
    unfolding line_shown
    line_good z = rw (← eb, h, ← ec, eq-eqb c.fault 0 z, e)

    pub line_faulty : (c.fault ≡ 0 → ⊥) → line_shown line p d memory picture room ≡ shown_texts page room (fault_texts page.form page.lines c.fault)
    unfolding line_shown
    line_faulty z = rw (← eb, h, ← ec, ne_eqb c.fault 0 z, e)
