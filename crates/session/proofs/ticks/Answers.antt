-- `session::ticks` meets its contract: each tick is one more of the run, and keeps the one condition; the registers stand outside.
use Prim.Native.Nat.{ℕ}
use mathlib.Core.List.{List}
use mathlib.Core.Path.{◌≡◌, refl, sym, ap, subst, ◌∙◌}
use native.Mathlib.Omega.{arith}
use Rattle.registers.specs.declared.Registers.{Registers}
use Rattle.generator.specs.Tick.{tick_of}
use Rattle.generator.specs.Sound.{Sound}
use Rattle.generator.specs.declared.Generator.{Generator}
use Rattle.generator.specs.declared.Ticked.{Ticked}
use Rattle.generator.proofs.Kept.{tick_sound}
use Rattle.calls.proofs.Running.{ran_first, ran_next, ran_refused}
use Rattle.questions.specs.Answers.{Shown}
use Rattle.report.specs.declared.Page.{Page}
use Rattle.changes.proofs.Laws.{run_done_lem}
use Rattle.session.proofs.Showing.{Leaves, leaves, shown, ticks_all, ticks_none, ticks_next, ticks_refused}
use Rattle.session.proofs.ticks.Goals as goal

pub loop-ticks-init : goal.loop-ticks-init
loop-ticks-init g c =
    let t = c.tables-tables.ensures.tables in
    (rw (c.numbers-n.ensures.numbers, t.0, t.1, t.2), ran_first _ _, c.requires, ticks_all _ _ _ _ _ c.args.count)

pub tick_with-next-requires : goal.tick_with-next-requires
tick_with-next-requires g c =
    let l = c.loop-ticks in
    subst (λ (r : Registers). Sound r l.generator) (sym l.invariant.0) l.invariant.2

-- a tick of the registers put together is one of the registers
ticked : (r other : Registers) → r ≡ other → (memory : List ℕ) (g : Generator) (t : Ticked) → t ≡ tick_of r memory g → t ≡ tick_of other memory g
ticked r other e memory g t et = et ∙ ap (λ (x : Registers). tick_of x memory g) e

-- what is shown once no tick is left is the page and its bytes
ended : (left all : Shown) → left ≡ all → (page : Page) (bytes : List ℕ) → left ≡ shown page bytes → Leaves all page bytes
ended left all e page bytes p = leaves all (shown page bytes) (sym e ∙ p) page bytes (refl, refl)

pub returns-then-refusal-ne0 : goal.returns-then-refusal-ne0
returns-then-refusal-ne0 g c =
    let l = c.loop-ticks in
    let e = ticked _ _ l.invariant.0 _ _ _ c.tick_with-next.ensures.ticked in
    let last = ended _ _ l.invariant.3 _ _ (ticks_refused _ _ _ _ _ _ e _ _ (c.show_tick-page.ensures.page, c.show_tick-page.ensures.bytes) _ _ c.loop-ticks-test.true c.if-refusal-ne0.true) in
    record { done = run_done_lem _ _ _ _ refl _ _ (ran_refused _ _ _ _ _ _ l.invariant.1 e c.if-refusal-ne0.true _ c.loop-ticks-test.true); sound = rw e (tick_sound _ _ _ l.invariant.2); page = last.0; bytes = last.1 }

pub loop-ticks-preserved : goal.loop-ticks-preserved
loop-ticks-preserved g c =
    let l = c.loop-ticks in
    let e = ticked _ _ l.invariant.0 _ _ _ c.tick_with-next.ensures.ticked in
    let s = ticks_next _ _ _ _ _ _ e _ _ (c.show_tick-page.ensures.page, c.show_tick-page.ensures.bytes) _ _ c.loop-ticks-test.true c.if-refusal-ne0.false in
    (l.invariant.0, ran_next _ _ _ _ _ _ l.invariant.1 e c.if-refusal-ne0.false, rw e (tick_sound _ _ _ l.invariant.2), s ∙ l.invariant.3)

pub returns : goal.returns
returns g c =
    let l = c.loop-ticks in
    let e : l.ticks ≡ c.args.count = omega arith in
    let last = ended _ _ l.invariant.3 _ _ (ticks_none _ _ _ _ _ c.args.count l.ticks (omega arith)) in
    record { done = run_done_lem _ _ _ _ refl _ _ (rw e at l.invariant.1); sound = l.invariant.2; page = last.0; bytes = last.1 }
