-- `memory::picked` meets its contract. Eight bits at the most are shifted by 56 at the most: nothing is lost. Assumes nothing.
use Prim.Native.Nat.{ℕ, ◌-◌, ◌*◌, ◌/◌, ◌%◌, ◌^◌, ◌≤◌, ◌<◌}
use mathlib.Core.Path.{◌≡◌, ap₂, ◌∙◌}
use native.Mathlib.Nat.{mul-le-mul, div-le_self}
use native.Mathlib.Omega.{arith}
use lib.Bits.{bit_and, and_mask, and_le_l}
use lib.Pow.{pow_pos, pow_mono, shl_exact}
use mir.Facts.{Fits-below}
use mir.Syntax.{w8}
use mir.Val.{Fits}
use borrow.Author.Rules.{rules}
use Rattle.memory.proofs.Laws.{one_bit}
use Rattle.memory.proofs.picked.Goals as goal

few_bits : (depth : ℕ) → depth < 4 → 2 ^ depth ≤ 8
few_bits depth h = pow_mono {i = depth} {j = 3} (omega arith)

some_bit : (n : ℕ) → n < 64 → 0 < 1 * 2 ^ n % 2 ^ 64
some_bit n h = rw (one_bit n h) (pow_pos n)

-- what a mask leaves of a byte, shifted down, is a byte
kept_small : (byte n mask : ℕ) → byte < 256 → Fits w8 (bit_and (byte / n) mask)
kept_small byte n mask small = Fits-below {n = 255} tt (omega (arith, and_le_l (byte / n) mask, div-le_self byte n))

-- the shift, the power that the mask is one less than, and the pixel that they leave
module _ (number depth : ℕ) (p : number < 8) (q : depth < 4) where
  shift : number * 2 ^ depth % 2 ^ 32 ≡ number * 2 ^ depth
  shift = shl_exact 3 depth 32 p (omega arith)

  power : 1 * 2 ^ (1 * 2 ^ depth % 2 ^ 64) % 2 ^ 64 ≡ 2 ^ (2 ^ depth)
  power = rw (one_bit depth (omega arith)) (one_bit (2 ^ depth) (omega (arith, few_bits depth q)))

  left : (byte : ℕ) →
      bit_and (byte / 2 ^ (number * 2 ^ depth % 2 ^ 32)) (1 * 2 ^ (1 * 2 ^ depth % 2 ^ 64) % 2 ^ 64 - 1) ≡ byte / 2 ^ (number * 2 ^ depth) % 2 ^ (2 ^ depth)
  left byte = ap₂ (λ (n m : ℕ). bit_and (byte / 2 ^ n) (m - 1)) shift power ∙ and_mask (byte / 2 ^ (number * 2 ^ depth)) (2 ^ depth)

pub overflow_shl-mask : goal.overflow_shl-mask
overflow_shl-mask c = omega (arith, few_bits c.args.depth (omega arith))

pub overflow_sub-mask : goal.overflow_sub-mask
overflow_sub-mask c = some_bit _ (omega (arith, few_bits c.args.depth (omega arith)))

pub overflow_shr-above : goal.overflow_shr-above
overflow_shr-above c = omega (arith, mul-le-mul {n₁ = c.args.number} {m₁ = 2 ^ c.args.depth} {n₂ = 7} {m₂ = 8} (omega arith) (few_bits c.args.depth (omega arith)))

pub overflow_cast-result : goal.overflow_cast-result
overflow_cast-result c = search (kept_small, rules)

pub returns : goal.returns
returns c = record { pixel = left c.args.number c.args.depth (omega arith) (omega arith) c.args.byte }
