-- `memory::ends_beyond` meets its contract: a pixel ends beyond the memory exactly when its byte does. Assumes nothing.
use Rattle.memory.proofs.Laws.{beyond_by}
use Rattle.memory.proofs.ends_beyond.Goals as goal

pub returns : goal.returns
returns c = record { refusal = rw c.byte_of.ensures.byte (beyond_by _ c.args.memory.now _) }
