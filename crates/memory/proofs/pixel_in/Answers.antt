-- `memory::pixel_in` meets its contract: the pixel is the one of that number in its byte, or the whole byte. Assumes nothing.
use native.Mathlib.Omega.{arith}
use Rattle.memory.proofs.Bytes.{per_positive}
use Rattle.memory.proofs.Cases.{in_whole, masked_small, masked_fits, in_byte_masked}
use Rattle.memory.proofs.pixel_in.Goals as goal

pub returns-then-per-eq1 : goal.returns-then-per-eq1
returns-then-per-eq1 c = record { pixel = in_whole _ _ _ _ c.per_byte-per.ensures.whole c.if-per-eq1.true (omega arith) }

pub overflow_sub-number : goal.overflow_sub-number
overflow_sub-number c = per_positive _ _ c.per_byte-per.ensures.whole

pub overflow_cast-number : goal.overflow_cast-number
overflow_cast-number c = search masked_fits

pub picked-requires : goal.picked-requires
picked-requires c = (search masked_small, omega arith)

pub returns : goal.returns
returns c = record { pixel = search in_byte_masked }
