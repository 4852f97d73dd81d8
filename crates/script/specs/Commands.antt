-- A line as a command (docs/SCRIPT.md): its name, its numbers and its first fault. Assumes nothing.
use Rattle.std.specs.Prelude.{ℕ, ◌+◌, Bool, cond, ◌&&◌, ◌||◌, List, [], ◌∷◌, ltb, eqb, length, get_or, take, drop}
use Rattle.words.specs.Faults.{unknown_command, too_few_words, beyond_the_memory, too_large}
use Rattle.words.specs.Words.{word_at, skip, past}
use Rattle.words.specs.Numbers.{largest}
use Rattle.script.specs.Names.{name_of}
use Rattle.script.specs.Arguments.{no_numbers, numbers_for}
use Rattle.words.specs.Slash.{slash_at}
use Rattle.script.specs.declared.numbers.Numbers.{Numbers}
use Rattle.script.specs.declared.command.Command.{Command}

-- ---- compare

-- a command with a fault and no numbers
abbrev pub faulty : ℕ → ℕ → Command
faulty name fault = record { name = name; fault = fault; left = no_numbers 0; right = no_numbers 0 }

-- the left side and then the right, each its count and then its numbers; with no `/` there are too few words
unfoldable pub compare_of : List ℕ → Command
compare_of rest =
    cond (ltb (slash_at rest) (length rest))
    (record {
      name = 12;
      fault = cond (eqb (numbers_for 12 (take (slash_at rest) rest)).fault 0) (numbers_for 12 (drop (slash_at rest + 1) rest)).fault (numbers_for 12 (take (slash_at rest) rest)).fault;
      left = numbers_for 12 (take (slash_at rest) rest);
      right = numbers_for 12 (drop (slash_at rest + 1) rest);
    })
    (faulty 12 too_few_words)

-- ---- the rest

-- the largest size of `memory`, `picture` and `store`, by name; no other has one
abbrev pub sizes : List ℕ
sizes = largest ∷ largest ∷ 1048576 ∷ largest ∷ largest ∷ largest ∷ largest ∷ 3145728 ∷ largest ∷ largest ∷ largest ∷ 80 ∷ []

-- `poke` and `fill` end within the memory lent: poke's bytes are the words past the first
abbrev pub past_memory : ℕ → ℕ → ℕ → ℕ → ℕ → Bool
past_memory name first second count memory = (eqb name 3 && ltb (memory + 1) (first + count)) || (eqb name 4 && ltb memory (first + second))

unfoldable pub rest_fault : ℕ → ℕ → ℕ → ℕ → ℕ → ℕ
rest_fault name first second count memory =
    cond (ltb (get_or sizes name 0) first) too_large (cond (past_memory name first second count memory) beyond_the_memory 0)

abbrev pub rest_for : ℕ → Numbers → ℕ → ℕ
rest_for name numbers memory = rest_fault name (get_or numbers.values 0 0) (get_or numbers.values 1 0) numbers.count memory

-- any other command: its numbers, then the rest
unfoldable pub plain_of : ℕ → List ℕ → ℕ → Command
plain_of name rest memory =
    record {
      name = name;
      fault = cond (eqb (numbers_for name rest).fault 0) (rest_for name (numbers_for name rest) memory) (numbers_for name rest).fault;
      left = numbers_for name rest;
      right = no_numbers 0;
    }

-- THE COMMAND OF A LINE, with the length of the memory lent: the name is judged first
unfoldable pub command_of : List ℕ → ℕ → Command
command_of line memory =
    cond (eqb (name_of (word_at 0 line)) 13)
    (faulty 13 unknown_command)
    (cond (eqb (name_of (word_at 0 line)) 12)
    (compare_of (past (skip line)))
    (plain_of (name_of (word_at 0 line)) (past (skip line)) memory))
