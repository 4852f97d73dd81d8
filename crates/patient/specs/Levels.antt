-- A word of a patient's line as a level. Assumes nothing.
use Rattle.std.specs.Prelude.{ℕ, ◌+◌, ◌-◌, ◌/◌, ◌%◌, Bool, true, false, cond, ◌&&◌, List, Result, Ok, Err, ltb, eqb, length, get_or, drop}
use Rattle.words.specs.Numbers.{number_of}
use Rattle.words.specs.declared.number.NumberFault.{NumberFault}
use Rattle.words.specs.declared.number.NumberFault.TheVariants.{NotANumber, TooLarge}
use Rattle.patient.specs.declared.Fault.{Fault}
use Rattle.patient.specs.declared.Fault.TheVariants.{NotALevel, OutOfRange, NotAStep}

-- a level that no chart shows
abbrev pub not_measured : ℕ
not_measured = 254

-- a word as a decimal number
unfoldable pub plain_number : List ℕ → Result ℕ NumberFault
plain_number word = cond (eqb (get_or word 0 0) 35) (Err NotANumber) (number_of word)

-- `-` alone
abbrev pub dash : List ℕ → Bool
dash word = eqb (length word) 1 && eqb (get_or word 0 0) 45

-- what is wrong with a level that is no number, or one beyond all
abbrev pub number_fault : NumberFault → Fault
number_fault NotANumber = NotALevel
number_fault TooLarge = OutOfRange

-- a number up to the most: no number is no level, and one beyond the most is out of range
abbrev pub in_range : Result ℕ NumberFault → ℕ → Result ℕ Fault
in_range (Err NotANumber) most = Err NotALevel
in_range (Err TooLarge) most = Err OutOfRange
in_range (Ok value) most = cond (ltb most value) (Err OutOfRange) (Ok value)

-- a level so many dB above -10, in steps of 5
abbrev pub stepped : ℕ → Result ℕ Fault
stepped above = cond (eqb (above % 5) 0) (Ok (above / 5)) (Err NotAStep)

-- so many dB: above 0 up to 120, or below it down to -10
abbrev pub most_of : Bool → ℕ
most_of below = cond below 10 120

abbrev pub level_at : Bool → Result ℕ Fault → Result ℕ Fault
level_at below (Err fault) = Err fault
level_at below (Ok value) = stepped (cond below (10 - value) (10 + value))

unfoldable pub signed_level : Bool → Result ℕ NumberFault → Result ℕ Fault
signed_level below n = level_at below (in_range n (most_of below))

-- a word as a level: `-` was not measured
unfoldable pub level_of : List ℕ → Result ℕ Fault
level_of word =
    cond (dash word)
    (Ok not_measured)
    (cond (eqb (get_or word 0 0) 45) (signed_level true (plain_number (drop 1 word))) (signed_level false (plain_number word)))
