-- `lines::shown_in` meets its contract: the first line's Display before VDisplay, and the whole field's.
use native.Mathlib.Omega.{arith}
use Rattle.lines.specs.Lines.{column_of, lead, field_visible}
use Rattle.lines.proofs.Moments.{lines_most}
use Rattle.lines.proofs.shown_in.Goals as goal

pub overflow_mul-all : goal.overflow_mul-all
overflow_mul-all c =
    let f = c.of-f.result in
    omega (arith, lines_most f.s f.narrow f.halves f.halves_are _ c.lines_above.ensures.lines)

pub overflow_add-all : goal.overflow_add-all
overflow_add-all c =
    let f = c.of-f.result in
    omega (arith, lines_most f.s f.narrow f.halves f.halves_are _ c.lines_above.ensures.lines, f.narrow)

pub returns : goal.returns
unfolding column_of lead field_visible
returns c =
    let f = c.of-f.result in
    record {
      lead = simp (c.begun-lead.ensures.ticks, f.ends_are, c.of-f.ensures.screen);
      visible = simp (c.saturating_sub.ensures, c.lines_above.ensures.lines, c.begun.ensures.ticks, c.begun-lead.ensures.ticks, f.ends_are, f.halves_are, c.of-f.ensures.screen);
    }
