-- Numbers (docs/SCRIPT.md): decimal, or hexadecimal after `#`, in either case of letters, from 0 to 4,294,967,295. Assumes nothing.
use Rattle.std.specs.Prelude.{ℕ, ◌+◌, ◌*◌, ◌-◌, Bool, true, false, cond, ◌&&◌, ◌||◌, List, [], ◌∷◌, ltb, leb, eqb, length, get_or, drop, Result, Ok, Err}
use Rattle.words.specs.declared.number.NumberFault.{NumberFault}
use Rattle.words.specs.declared.number.NumberFault.TheVariants.{NotANumber, TooLarge}

-- what a byte counts as a digit, in either case of letters; 16 for a byte that is none
abbrev pub digit_of : ℕ → ℕ
digit_of byte =
    cond (leb 48 byte && leb byte 57) (byte - 48)
    (cond (leb 65 byte && leb byte 70) (byte - 55)
    (cond (leb 97 byte && leb byte 102) (byte - 87)
    16))

abbrev pub base_of : Bool → ℕ
base_of hexadecimal = cond hexadecimal 16 10

-- the value of digits, the most significant first, after a value of those before
unfoldable pub value_from : Bool → ℕ → List ℕ → ℕ
value_from hexadecimal value [] = value
value_from hexadecimal value (byte ∷ rest) = value_from hexadecimal (value * base_of hexadecimal + digit_of byte) rest

-- some byte is no digit of the base
unfoldable pub strange : Bool → List ℕ → Bool
strange hexadecimal [] = false
strange hexadecimal (byte ∷ rest) = leb (base_of hexadecimal) (digit_of byte) || strange hexadecimal rest

-- the largest number
abbrev pub largest : ℕ
largest = 0xFFFFFFFF

-- `not a number` before `number too large`; a fault leaves no value
abbrev pub number_with : Bool → ℕ → Result ℕ NumberFault
number_with bad value =
    cond bad (Err NotANumber) (cond (ltb largest value) (Err TooLarge) (Ok value))

-- no digit at all is no number either
unfoldable pub digits_number : Bool → List ℕ → Result ℕ NumberFault
digits_number hexadecimal text = number_with (eqb (length text) 0 || strange hexadecimal text) (value_from hexadecimal 0 text)

-- a word as a number: hexadecimal after `#`
unfoldable pub number_of : List ℕ → Result ℕ NumberFault
number_of word = cond (eqb (get_or word 0 0) 35) (digits_number true (drop 1 word)) (digits_number false word)
