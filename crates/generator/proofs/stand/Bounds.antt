-- What fits 64 bits, from the 24 bits of a register alone. Assumes nothing.
use Prim.Native.Nat.{ℕ, ◌+◌, ◌*◌, ◌/◌, ◌^◌, ◌≤◌, ◌<◌}
use native.Mathlib.Nat.{mul-le-mul, div-le_self}
use native.Mathlib.Omega.{arith}

-- half lines of half a line time each
pub lines_in : (half line : ℕ) → half ≤ 5 * 0xFFFFFF → line ≤ 0x7FFFFF → half * line < 2 ^ 50
lines_in half line h l = omega (arith, mul-le-mul {n₁ = half} {m₁ = line} {n₂ = 5 * 0xFFFFFF} {m₂ = 0x7FFFFF} h l)

module _ (held divisor row rest : ℕ) (fits : held < 2 ^ 32) (inside : rest < row) (most : row ≤ 2 ^ 26) where
  number_in : held / divisor < 2 ^ 32
  number_in = omega (arith, div-le_self held divisor)

  rows_in : held / divisor * row ≤ 0xFFFFFFFF * 2 ^ 26
  rows_in = mul-le-mul {n₁ = held / divisor} {m₁ = row} {n₂ = 0xFFFFFFFF} {m₂ = 2 ^ 26} (omega (arith, number_in)) most

  pub row_in_lem : held / divisor * row < 2 ^ 58
  row_in_lem = omega (arith, rows_in)

  pub place_in : held / divisor * row + rest < 2 ^ 58
  place_in = omega (arith, rows_in)
