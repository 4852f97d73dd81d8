-- What a number comes to digit by digit. Assumes nothing.
use Prim.Native.Nat.{ℕ, ◌+◌, ◌*◌, ◌≤◌, ◌<◌}
use mathlib.Core.Bool.{Bool, true, false, ◌||◌}
use mathlib.Core.List.{List, [], ◌∷◌}
use mathlib.Core.Path.{◌≡◌, refl, ap}
use native.Mathlib.Omega.{arith}
use lib.Dec.{leb}
use lib.ListN.{length, get_or, drop, drop_of_length-le}
use Rattle.std.proofs.lemmas.List.{drop_more}
use Rattle.std.specs.List.{list_any}
use Rattle.words.specs.Numbers.{digit_of, base_of, value_from, strange, largest}

-- digits after a value make no smaller one
value_grows : (hexadecimal : Bool) (value : ℕ) (text : List ℕ) → value ≤ value_from hexadecimal value text
unfolding value_from
value_grows hexadecimal value [] = omega arith
value_grows true value (byte ∷ rest) = let more = value_grows true (value * 16 + digit_of byte) rest in omega (arith, more)
value_grows false value (byte ∷ rest) = let more = value_grows false (value * 10 + digit_of byte) rest in omega (arith, more)

-- a byte that is no digit, by the library's word
pub strange_is : (hexadecimal : Bool) (text : List ℕ) → strange hexadecimal text ≡ list_any (λ byte. leb (base_of hexadecimal) (digit_of byte)) text
unfolding strange
strange_is hexadecimal [] = refl
strange_is hexadecimal (byte ∷ rest) = ap (λ (t : Bool). leb (base_of hexadecimal) (digit_of byte) || t) (strange_is hexadecimal rest)

-- a digit more, one that makes the value too large, and the end of the digits
module _ (hexadecimal : Bool) (text : List ℕ) (i value : ℕ) where
  pub value_next : i < length text → value_from hexadecimal value (drop i text) ≡ value_from hexadecimal (value * base_of hexadecimal + digit_of (get_or text i 0)) (drop (i + 1) text)
  unfolding value_from
  value_next h = rw (drop_more text i 0 h)

  pub value_over : i < length text → largest < value * base_of hexadecimal + digit_of (get_or text i 0) → largest < value_from hexadecimal value (drop i text)
  value_over h over =
      let least = value_grows hexadecimal (value * base_of hexadecimal + digit_of (get_or text i 0)) (drop (i + 1) text) in
      omega (arith, value_next h, least)

  pub value_end : length text ≤ i → value_from hexadecimal value (drop i text) ≡ value
  unfolding value_from
  value_end h = rw (drop_of_length-le text h)

pub ruleset digits = (strange_is, value_next, value_over, value_end)
