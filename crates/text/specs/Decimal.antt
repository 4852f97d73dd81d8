-- Numbers in decimal digits (docs/SCRIPT.md). Assumes nothing.
use Rattle.std.specs.Prelude.{ℕ, zero, suc, ◌^◌, cond, List, ltb}
use Rattle.io.specs.Digits.{last_digits}

-- how many decimal digits a number has, where it has `least` at least and `more` beyond that at most
unfoldable pub places : ℕ → ℕ → ℕ → ℕ
places least zero value = least
places least (suc more) value = cond (ltb value (10 ^ least)) least (places (suc least) more value)

-- a number of 64 bits in decimal, with no zeros in front
unfoldable pub decimal_text : ℕ → List ℕ
decimal_text value = last_digits 10 (places 1 19 value) value
