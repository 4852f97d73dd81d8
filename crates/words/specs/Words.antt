-- The words of a line (docs/SCRIPT.md): bytes parted by spaces or tabs. Assumes nothing.
use Rattle.std.specs.Prelude.{ℕ, zero, suc, ◌+◌, Bool, true, false, not, cond, ◌||◌, List, [], ◌∷◌, eqb}

-- a space or a tab
abbrev pub blank : ℕ → Bool
blank byte = eqb byte 32 || eqb byte 9

-- what is left past the blanks in front, or past the bytes in front that are none
unfoldable pub past_run : Bool → List ℕ → List ℕ
past_run blanks [] = []
past_run blanks (byte ∷ rest) = cond (cond blanks (blank byte) (not (blank byte))) (past_run blanks rest) (byte ∷ rest)

abbrev pub skip : List ℕ → List ℕ
skip = past_run true

-- the word in front, none where a blank stands there; and what is left past it
unfoldable pub front : List ℕ → List ℕ
front [] = []
front (byte ∷ rest) = cond (blank byte) [] (byte ∷ front rest)

abbrev pub past : List ℕ → List ℕ
past = past_run false

-- word k of a line, from 0; past the last word there is none
unfoldable pub word_at : ℕ → List ℕ → List ℕ
word_at zero line = front (skip line)
word_at (suc k) line = word_at k (past (skip line))

-- how many words begin, where the byte before was part of a word or not
unfoldable pub begins : Bool → List ℕ → ℕ
begins inside [] = 0
begins inside (byte ∷ rest) = cond (inside || blank byte) 0 1 + begins (not (blank byte)) rest

-- how many words a line has
abbrev pub word_count : List ℕ → ℕ
word_count line = begins false line
