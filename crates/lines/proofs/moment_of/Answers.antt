-- `lines::moment_of` meets its contract: each part by its own test.
use mathlib.Core.Path.{ap, ◌∙◌}
use Rattle.units.specs.declared.Screen.{Screen}
use Rattle.lines.specs.Lines.{moment_of}
use Rattle.lines.proofs.Moments.{by_tests}
use Rattle.lines.proofs.moment_of.Goals as goal

pub returns : goal.returns
returns c =
    let a = c.args in
    let f = c.of-f.result in
    record {
      moment =
          rw (c.choose-3.ensures.chosen, c.choose-2.ensures.chosen, c.choose.ensures.chosen, c.choose-next.ensures.chosen, c.low_at.ensures.test, c.lines_above.ensures.lines, c.saturating_sub-column.ensures, c.in_line-tick.ensures.tick, c.display_from-from.ensures.ticks, f.ends_are, f.halves_are)
          (by_tests f.s a.plain a.half a.at ∙ ap (λ (s : Screen). moment_of s a.plain a.half a.at) c.of-f.ensures.screen);
    }
