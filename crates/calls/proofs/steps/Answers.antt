-- `calls::steps` meets its contract: each tick is one more of the run, and keeps the one condition.
use Prim.Native.Nat.{◌<◌}
use mathlib.Core.Path.{◌≡◌}
use native.Mathlib.Omega.{arith}
use mathlib.Core.Bool.{true}
use Rattle.control.specs.Control.{running}
use Rattle.units.specs.Parameters.{halves_to_vdisplay}
use Rattle.registers.specs.File.{file_with}
use Rattle.registers.specs.declared.Registers.{Registers}
use Rattle.generator.specs.Rows.{screen}
use Rattle.generator.specs.Stand.{Runs}
use Rattle.generator.proofs.Kept.{tick_sound}
use Rattle.calls.proofs.Running.{ran_first, ran_next}
use Rattle.calls.proofs.Dark.{dark_runs, passed_ran, passed_sound}
use Rattle.calls.proofs.Parts.{test_below, part_refused}
use Rattle.calls.proofs.steps.Goals as goal

pub loop-done-init : goal.loop-done-init
loop-done-init c = (omega arith, ran_first _ _, c.requires)

pub loop-done-preserved-then-now-halves : goal.loop-done-preserved-then-now-halves
loop-done-preserved-then-now-halves c =
    let due = test_below c.loop-done.done c.args.count _ c.loop-done-test.true in
    let file : Registers = let a = c.args in file_with a.n a.tables in
    let dark : (running (file).control ≡ true) × (c.dark_halves-halves.result ≡ halves_to_vdisplay (screen (file))) = dark_runs _ _ _ _ c.dark_halves-halves.ensures.halves c.if-now-halves.true in
    let runs : Runs (file) c.loop-done.now = let z = c.loop-done.invariant.2 in record { runs = dark.0; accepted = z.accepted dark.0; placed = z.placed dark.0 } in
    let early : c.loop-done.now.half.0 < halves_to_vdisplay (screen (file)) = rw (← dark.1) c.if-now-halves.true in
    let l = c.loop-done in
    (omega (arith, due, c.pass_dark-p.ensures.ticks.most), passed_ran _ _ (file) _ l.invariant.2 (runs) (early) _ l.invariant.1 _ _ c.pass_dark-p.ensures.ticks, passed_sound _ _ (file) _ l.invariant.2 (runs) (early) _ l.invariant.1 _ _ c.pass_dark-p.ensures.ticks)

pub returns-then-refusal-ne0 : goal.returns-then-refusal-ne0
returns-then-refusal-ne0 c =
    let l = c.loop-done in
    record { part = part_refused _ _ _ _ _ _ _ l.invariant.0 l.invariant.1 l.invariant.2 _ c.tick_with-t.ensures.ticked c.if-refusal-ne0.true (test_below _ _ _ c.loop-done-test.true) }

pub loop-done-preserved : goal.loop-done-preserved
loop-done-preserved c =
    let l = c.loop-done in
    (omega (arith, test_below l.done c.args.count _ c.loop-done-test.true), ran_next _ _ _ _ _ _ l.invariant.1 c.tick_with-t.ensures.ticked c.if-refusal-ne0.false, rw c.tick_with-t.ensures.ticked (tick_sound _ _ _ l.invariant.2))
