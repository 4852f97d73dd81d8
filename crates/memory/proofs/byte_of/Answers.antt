-- `memory::byte_of` meets its contract: pixels do not cross from one byte to the next. Assumes nothing.
use native.Mathlib.Omega.{arith}
use Rattle.control.specs.Control.{depth}
use Rattle.memory.proofs.Bytes.{filled, byte_by}
use Rattle.memory.proofs.byte_of.Goals as goal

pub returns : goal.returns
returns c = record { byte = rw c.depth_code-depth.ensures.code (byte_by _ _ (filled (depth c.args.control) (omega arith)) _) }
