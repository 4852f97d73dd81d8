-- `picture::draw` meets its contract: a refusal changes nothing; else the frame in closed form, which is the ticks' own. Assumes nothing.
use Rattle.picture.proofs.Closed.{drawable_free, fits_free, drawn_whole, refused_whole}
use Rattle.picture.proofs.draw.Goals as goal

pub draw_frame-next-requires : goal.draw_frame-next-requires
draw_frame-next-requires c =
    let args = c.args in
    record { drawable = drawable_free args.r args.memory.now args.g args.buffer.now _ c.refusal_of-refusal.ensures.refusal c.requires c.if-refusal-eq0.true; size = fits_free args.r args.memory.now args.g args.buffer.now _ c.refusal_of-refusal.ensures.refusal c.requires c.if-refusal-eq0.true }

pub returns-then-refusal-eq0 : goal.returns-then-refusal-eq0
returns-then-refusal-eq0 c =
    let whole = drawn_whole c.args.r c.args.memory.now c.args.g c.args.buffer.now _ c.refusal_of-refusal.ensures.refusal c.requires c.if-refusal-eq0.true _ _ c.draw_frame-next.ensures.end c.draw_frame-next.ensures.bytes in
    record { whole = whole.0; bytes = whole.1 }

pub returns : goal.returns
returns c =
    let whole = refused_whole c.args.r c.args.memory.now c.args.g c.args.buffer.now _ c.refusal_of-refusal.ensures.refusal c.if-refusal-eq0.false in
    record { whole = whole.0; bytes = whole.1 }
