-- What a line comes to, by its name. Assumes nothing.
use Prim.Native.Nat.{ℕ, ◌+◌, ◌-◌, ◌≤◌, ◌<◌}
use mathlib.Core.Bool.{cond}
use mathlib.Core.List.{List}
use mathlib.Core.Path.{◌≡◌, sym, ap, ◌∙◌}
use native.Mathlib.Omega.{arith}
use borrow.Author.Tests.{lt-ltb, le-ltb, eq-eqb, ne_eqb}
use lib.Dec.{eqb}
use lib.ListN.{length, take, drop, length-drop}
use lib.Seq.{take_all}
use Rattle.words.specs.Words.{skip, front, past, word_at}
use Rattle.script.specs.Names.{name_of}
use Rattle.script.specs.Arguments.{no_numbers, numbers_for}
use Rattle.words.specs.Slash.{slash_at}
use Rattle.script.specs.declared.numbers.Numbers.{Numbers}
use Rattle.script.specs.Commands.{faulty, compare_of, rest_for, plain_of, command_of}
use Rattle.script.specs.declared.command.Command.{Command}

-- what is left past a place, as a part
pub tail_all : (line : List ℕ) (to : ℕ) → take (length line - to) (drop to line) ≡ drop to line
tail_all line to = take_all (length line - to) (drop to line) (omega (arith, length-drop to line))

-- a `compare`, with a `/` and without
module _ (rest : List ℕ) (slash : ℕ) (es : slash ≡ slash_at rest) where
  pub compare_parted : (left right : Numbers) (fault : ℕ) → slash < length rest → left ≡ numbers_for 12 (take slash rest) → right ≡ numbers_for 12 (take (length rest - (slash + 1)) (drop (slash + 1) rest)) → fault ≡ cond (eqb left.fault 0) right.fault left.fault → ◌≡◌ {A = Command} (record { name = 12; fault = fault; left = left; right = right }) (compare_of rest)
  unfolding compare_of
  compare_parted left right fault h el er ef =
      let er2 : right ≡ numbers_for 12 (drop (slash + 1) rest) = er ∙ ap (numbers_for 12) (tail_all rest (slash + 1)) in
      rw (← es, lt-ltb slash (length rest) h, ← el, ← er2, ef)

  pub compare_whole : (r : Command) → length rest ≤ slash → r ≡ faulty 12 2 → r ≡ compare_of rest
  unfolding compare_of
  compare_whole r h e = rw (← es, le-ltb slash (length rest) h) e

-- any other command
pub plain_made : (name : ℕ) (rest : List ℕ) (memory : ℕ) (left right : Numbers) (later fault : ℕ) → left ≡ numbers_for name rest → right ≡ no_numbers 0 → later ≡ rest_for name left memory → fault ≡ cond (eqb left.fault 0) later left.fault → ◌≡◌ {A = Command} (record { name = name; fault = fault; left = left; right = right }) (plain_of name rest memory)
unfolding plain_of
plain_made name rest memory left right later fault el er et ef = rw (← el, ef, et, er)

-- the command of a line, by its name
module _ (line : List ℕ) (memory : ℕ) (word : List ℕ) (name : ℕ) (ew : word ≡ front (skip (drop 0 line))) (en : name ≡ name_of word) where
  name_is : name_of (word_at 0 line) ≡ name
  unfolding word_at
  name_is = sym (en ∙ ap name_of ew)

  pub command_unknown : (r : Command) → name ≡ 13 → r ≡ faulty 13 1 → r ≡ command_of line memory
  unfolding command_of
  command_unknown r h e = rw (name_is, eq-eqb name 13 h) e

  module _ (to : ℕ) (el : drop to line ≡ past (skip (drop 0 line))) (known : name ≡ 13 → ⊥) where
    rest_is : take (length line - to) (drop to line) ≡ past (skip line)
    rest_is = tail_all line to ∙ el

    pub command_compare : (r : Command) → name ≡ 12 → r ≡ compare_of (take (length line - to) (drop to line)) → r ≡ command_of line memory
    unfolding command_of
    command_compare r h e = rw (name_is, ne_eqb name 13 known, eq-eqb name 12 h) (e ∙ ap compare_of rest_is)

    pub command_plain : (r : Command) → (name ≡ 12 → ⊥) → r ≡ plain_of name (take (length line - to) (drop to line)) memory → r ≡ command_of line memory
    unfolding command_of
    command_plain r h e = rw (name_is, ne_eqb name 13 known, ne_eqb name 12 h) (e ∙ ap (λ (l : List ℕ). plain_of name l memory) rest_is)
