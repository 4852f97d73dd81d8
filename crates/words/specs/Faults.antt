-- The faults of a line (docs/SCRIPT.md), as numbers; 0 is none. Assumes nothing.
use Rattle.std.specs.Prelude.{ℕ}

abbrev pub unknown_command : ℕ
unknown_command = 1

abbrev pub too_few_words : ℕ
too_few_words = 2

abbrev pub too_many_words : ℕ
too_many_words = 3

abbrev pub not_a_number : ℕ
not_a_number = 4

abbrev pub number_too_large : ℕ
number_too_large = 5

abbrev pub beyond_the_memory : ℕ
beyond_the_memory = 6

abbrev pub too_large : ℕ
too_large = 7

abbrev pub too_long : ℕ
too_long = 8
