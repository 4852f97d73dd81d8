-- `picture::blacken` meets its contract: a part filled is stores in a row. Assumes nothing.
use native.Mathlib.Omega.{arith}
use borrow.Author.Rules.{rules}
use Rattle.picture.proofs.span.Spans.{fill_black}
use Rattle.picture.proofs.blacken.Goals as goal

pub returns : goal.returns
returns c = record { bytes = fill_black c.args.buffer.now c.args.from _ (omega (arith, c.requires.1)) _ (c.fill.ensures.after (λ y e. search rules)) }
