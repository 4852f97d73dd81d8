-- `memory::per_byte` meets its contract: 2^(3 - depth) pixels of 2^depth bits are 2^3 bits. Assumes nothing.
use Prim.Native.Nat.{ℕ, ◌-◌, ◌*◌, ◌%◌, ◌^◌, ◌<◌}
use mathlib.Core.Path.{◌≡◌}
use native.Mathlib.Omega.{arith}
use Rattle.control.specs.Control.{depth}
use Rattle.memory.proofs.Bytes.{filled}
use Rattle.memory.proofs.Laws.{one_bit}
use Rattle.memory.proofs.per_byte.Goals as goal

eight : (d : ℕ) → d < 4 → 1 * 2 ^ (3 - d) % 2 ^ 64 * 2 ^ d ≡ 8
eight d h = rw (one_bit (3 - d) (omega arith)) (filled d h)

pub returns : goal.returns
returns c = record { whole = rw c.depth_code-depth.ensures.code (eight (depth c.args.control) (omega arith)) }
