-- `picture::span::draw_stretch` meets its contract: what is left of the cursor, under it and right of it, joined. Assumes nothing.
use borrow.Author.Rules.{rules}
use Rattle.picture.specs.Span.{through_by, uncovered_colour, covered_colour}
use Rattle.picture.proofs.span.Spans.{painted_stretch}
use Rattle.picture.proofs.span.draw_stretch.Goals as goal

pub returns : goal.returns
unfolding covered_colour
returns c =
    let b = c.args.brush in
    let s = c.args.s in
    let plain = uncovered_colour b.control b.table.now b.memory.now s.from in
    let under = covered_colour (through_by b) s in
    record { painted = painted_stretch (through_by b) s c.clip-c.result c.clip-c.ensures.clipped (c.paint-a.ensures.painted plain (λ i x l h p. search rules)) (c.paint-b.ensures.painted under (λ i x l h p. search rules)) (c.paint.ensures.painted plain (λ i x l h p. search rules)) }
