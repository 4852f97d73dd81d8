-- `calls::from_start` meets its contract: the first frame, and the ticks after the last whole one.
use Prim.Native.Nat.{ℕ, ◌<◌}
use mathlib.Core.Path.{◌≡◌, sym, ap, ◌∙◌}
use native.Mathlib.Omega.{arith}
use Rattle.screen.specs.Totals.{frame_ticks, totals_of}
use Rattle.screen.specs.declared.totals.Totals.{Totals}
use Rattle.screen.proofs.limits.Laws.{unrefused}
use Rattle.screen.proofs.totals.Laws.{totals_counted}
use Rattle.registers.specs.declared.Registers.{Registers}
use Rattle.generator.specs.Rows.{screen}
use Rattle.generator.specs.declared.Generator.{Generator}
use Rattle.frame.proofs.Demand.{frame_ticks_some}
use Rattle.calls.specs.Runs.{Starts}
use Rattle.calls.proofs.Parts.{part_whole}
use Rattle.calls.proofs.Frames.{refused_by, passed_by}
use Rattle.calls.proofs.from_start.Goals as goal

-- the frame's ticks, where some are due, are the screen's, and there are some
module _ (r : Registers) (g : Generator) (count : ℕ) (s : Starts r g count) (t : Totals) (e : t ≡ totals_of r.control r.params) where
  ticks_are : t.ticks.0 ≡ frame_ticks (screen r)
  ticks_are = ap (λ (x : Totals). x.ticks.0) (e ∙ sym (totals_counted r.control r.params (unrefused r.control (screen r) (s.sound.accepted s.runs))))

  ticks_some : 0 < t.ticks.0
  ticks_some = rw ticks_are (frame_ticks_some r (s.sound.accepted s.runs))

pub returns-then-first-ne0 : goal.returns-then-first-ne0
returns-then-first-ne0 c =
    let s = c.requires in
    let ticks = ticks_are _ _ _ s _ c.frame_totals-totals.ensures.totals in
    record { ran = refused_by _ _ _ s.runs (s.start (omega arith)) s.sound _ ticks _ _ (omega arith) (part_whole _ _ _ _ _ c.steps-first.ensures.part) c.if-first-ne0.true }

pub nonzero_rem-rest : goal.nonzero_rem-rest
nonzero_rem-rest c = omega (arith, ticks_some _ _ _ c.requires _ c.frame_totals-totals.ensures.totals)

pub returns : goal.returns
returns c =
    let s = c.requires in
    let e = c.frame_totals-totals.ensures.totals in
    record { ran = passed_by _ _ _ s.runs (s.start (omega arith)) s.sound _ (ticks_are _ _ _ s _ e) _ _ (omega arith) (part_whole _ _ _ _ _ c.steps-first.ensures.part) c.if-first-ne0.false (ticks_some _ _ _ s _ e) _ (part_whole _ _ _ _ _ c.steps-last.ensures.part) }
