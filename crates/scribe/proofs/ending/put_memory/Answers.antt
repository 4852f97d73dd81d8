-- `scribe::ending::put_memory` meets its contract: the text in the code is that of its numbers, by computation. Assumes nothing.
use mathlib.Core.Path.{refl}
use Rattle.text.specs.Decimal.{places, decimal_text}
use Rattle.scribe.specs.Ending.{memory_text}
use Rattle.scribe.proofs.ending.Either.{either_put}
use Rattle.scribe.proofs.ending.put_memory.Goals as goal

pub returns : goal.returns
unfolding places decimal_text
returns c =
    let puts = either_put memory_text _ _ refl refl c.args.interlaced _ _ _ _ (c.put_either.ensures.place, c.put_either.ensures.bytes) in
    record { place = puts.0; bytes = puts.1 }
