-- The numbers of a command (docs/SCRIPT.md): how many words its name takes, and each as a number. Assumes nothing.
use Rattle.std.specs.Prelude.{ℕ, zero, suc, Bool, cond, ◌&&◌, List, [], ◌∷◌, ltb, leb, eqb, get_or, set, replicate, Result, Ok, Err}
use Rattle.std.specs.Result.{result_unwrap_or}
use Rattle.words.specs.Faults.{too_few_words, too_many_words, not_a_number, number_too_large}
use Rattle.words.specs.Words.{word_at, word_count}
use Rattle.words.specs.Numbers.{number_of}
use Rattle.words.specs.declared.number.NumberFault.{NumberFault}
use Rattle.words.specs.declared.number.NumberFault.TheVariants.{NotANumber, TooLarge}
use Rattle.script.specs.declared.numbers.Numbers.{Numbers}

-- the fewest and the most words that a name takes, and how many of them, from the left, may be any number: the others are bytes
abbrev pub leasts : List ℕ
leasts = 2 ∷ 1 ∷ 1 ∷ 2 ∷ 4 ∷ 0 ∷ 1 ∷ 1 ∷ 0 ∷ 0 ∷ 1 ∷ 15 ∷ 0 ∷ []

abbrev pub mosts : List ℕ
mosts = 2 ∷ 1 ∷ 1 ∷ 65 ∷ 4 ∷ 1 ∷ 1 ∷ 1 ∷ 0 ∷ 80 ∷ 81 ∷ 15 ∷ 16 ∷ []

abbrev pub plains : List ℕ
plains = 2 ∷ 1 ∷ 1 ∷ 1 ∷ 4 ∷ 1 ∷ 1 ∷ 1 ∷ 0 ∷ 0 ∷ 1 ∷ 15 ∷ 0 ∷ []

-- a number where a byte may be due
abbrev pub as_argument : Bool → Result ℕ NumberFault → Result ℕ NumberFault
as_argument byte (Ok value) = cond (byte && ltb 255 value) (Err TooLarge) (Ok value)
as_argument byte (Err fault) = Err fault

-- word k: a byte over 255 is `number too large`
unfoldable pub argument_of : ℕ → ℕ → List ℕ → Result ℕ NumberFault
argument_of plain k word = as_argument (leb plain k) (number_of word)

-- a number's fault as a line's, or 0
abbrev pub fault_of : Result ℕ NumberFault → ℕ
fault_of (Ok value) = 0
fault_of (Err NotANumber) = not_a_number
fault_of (Err TooLarge) = number_too_large

-- the first fault of the first n words, from left to right
unfoldable pub fault_up_to : ℕ → List ℕ → ℕ → ℕ
fault_up_to plain rest zero = 0
fault_up_to plain rest (suc n) =
    cond (eqb (fault_up_to plain rest n) 0) (fault_of (argument_of plain n (word_at n rest))) (fault_up_to plain rest n)

-- the values of the first n words, 0 for one at fault and past them
unfoldable pub values_up_to : ℕ → List ℕ → ℕ → List ℕ
values_up_to plain rest zero = replicate 81 0
values_up_to plain rest (suc n) = set (values_up_to plain rest n) n (result_unwrap_or (argument_of plain n (word_at n rest)) 0)

-- no numbers, with a fault or with none
abbrev pub no_numbers : ℕ → Numbers
no_numbers fault = record { fault = fault; count = 0; values = replicate 81 0 }

-- the count of words first, then each number from left to right
unfoldable pub numbers_of : ℕ → ℕ → ℕ → List ℕ → Numbers
numbers_of least most plain rest =
    cond (ltb (word_count rest) least)
    (no_numbers too_few_words)
    (cond (ltb most (word_count rest))
    (no_numbers too_many_words)
    (record { fault = fault_up_to plain rest (word_count rest); count = word_count rest; values = values_up_to plain rest (word_count rest) }))

-- the numbers that a name takes
abbrev pub numbers_for : ℕ → List ℕ → Numbers
numbers_for name rest = numbers_of (get_or leasts name 0) (get_or mosts name 0) (get_or plains name 0) rest
