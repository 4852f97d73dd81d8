-- `picture::paint_field` meets its contract: black bytes and no sums, or the segments through the masked palette. Assumes nothing.
use mathlib.Core.Path.{sym, ◌∙◌}
use Rattle.picture.proofs.Closed.{field_black, field_lit}
use Rattle.picture.proofs.paint_field.Goals as goal

pub returns-then-blank : goal.returns-then-blank
returns-then-blank c =
    let drawn = field_black c.args.r _ c.args.memory.now _ c.requires.plan (sym c.is_forced_blank-blank.ensures.bit ∙ c.if-blank.true) _ c.args.buffer.now _ c.none.ensures.sums c.blacken.ensures.bytes in
    record { sums = drawn.0; bytes = drawn.1 }

pub returns : goal.returns
returns c =
    let drawn = field_lit c.args.r _ c.args.memory.now _ c.requires.plan (sym c.is_forced_blank-blank.ensures.bit ∙ c.if-blank.false) _ c.masked_palette-table.ensures.table c.draw_rows.ensures.painted in
    record { sums = drawn.0; bytes = drawn.1 }
