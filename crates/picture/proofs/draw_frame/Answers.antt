-- `picture::draw_frame` meets its contract: the one field, or the second behind the first. Assumes nothing.
use native.Mathlib.Omega.{arith}
use Rattle.picture.proofs.Closed.{fits_first, fits_second, frame_one, frame_two}
use Rattle.picture.proofs.draw_frame.Goals as goal

pub draw_field-first-requires-clause-fits : goal.draw_field-first-requires-clause-fits
draw_field-first-requires-clause-fits c = fits_first c.args.r c.args.memory.now c.requires.drawable c.args.buffer.now c.requires.size

pub draw_field-requires-clause-fits : goal.draw_field-requires-clause-fits
draw_field-requires-clause-fits c = omega (arith, fits_second c.args.r c.args.memory.now c.requires.drawable c.args.buffer.now c.requires.size _ c.is_interlaced-interlaced.ensures.bit c.if-interlaced.true)

pub returns-then-interlaced : goal.returns-then-interlaced
returns-then-interlaced c =
    let drawn = frame_two c.args.r c.args.memory.now c.requires.drawable c.args.buffer.now c.requires.size _ c.is_interlaced-interlaced.ensures.bit _ _ _ c.draw_field-first.ensures.end c.draw_field-first.ensures.bytes c.if-interlaced.true _ _ c.draw_field.ensures.end c.draw_field.ensures.bytes in
    record { end = drawn.0; bytes = drawn.1 }

pub returns : goal.returns
returns c =
    let drawn = frame_one c.args.r c.args.memory.now c.requires.drawable c.args.buffer.now c.requires.size _ c.is_interlaced-interlaced.ensures.bit _ _ _ c.draw_field-first.ensures.end c.draw_field-first.ensures.bytes c.if-interlaced.false in
    record { end = drawn.0; bytes = drawn.1 }
