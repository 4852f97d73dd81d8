-- `changes::draw` meets its contract: the picture's own.
use Rattle.changes.proofs.Laws.{draw_done_lem, draw_bytes, draw_sound}
use Rattle.changes.proofs.draw.Goals as goal

pub draw_machine-drawn-requires : goal.draw_machine-drawn-requires
draw_machine-drawn-requires c = c.requires

pub returns : goal.returns
returns c =
    let d = c.draw_machine-drawn.ensures in
    let l = c.lent.ensures.bytes in
    let m = c.args.m in
    record { done = draw_done_lem m _ _ _ l _ _ d.whole; bytes = draw_bytes m 0 _ _ l _ _ d.bytes; sound = draw_sound m 0 _ _ l _ _ d.whole c.requires }
