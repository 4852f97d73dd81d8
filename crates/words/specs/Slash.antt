-- The `/` that parts the two sides of a `compare` (docs/SCRIPT.md). Assumes nothing.
use Rattle.std.specs.Prelude.{ℕ, zero, suc, ◌+◌, ◌-◌, Bool, cond, ◌&&◌, ◌||◌, List, leb, eqb, length, get_or}
use Rattle.words.specs.Words.{blank}

-- a blank stands at a place, or the line has ended
abbrev pub blank_at : List ℕ → ℕ → Bool
blank_at line i = leb (length line) i || blank (get_or line i 0)

-- a blank stands before a place, or the line begins there
abbrev pub blank_before : List ℕ → ℕ → Bool
blank_before line i = eqb i 0 || blank (get_or line (i - 1) 0)

-- byte i is a `/` that is a word by itself
abbrev pub alone : List ℕ → ℕ → Bool
alone line i = eqb (get_or line i 0) 47 && blank_before line i && blank_at line (i + 1)

-- the place of the first such `/` from i on, n places at most; past them where there is none
unfoldable pub slash_from : List ℕ → ℕ → ℕ → ℕ
slash_from line i zero = i
slash_from line i (suc n) = cond (alone line i) i (slash_from line (i + 1) n)

abbrev pub slash_at : List ℕ → ℕ
slash_at line = slash_from line 0 (length line)
