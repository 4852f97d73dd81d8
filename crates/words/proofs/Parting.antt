-- What a line's words come to byte by byte. Assumes nothing.
use Prim.Native.Nat.{ℕ, ◌+◌, ◌-◌, ◌≤◌, ◌<◌}
use mathlib.Core.Bool.{Bool, true, false, not, cond, ◌||◌}
use mathlib.Core.List.{List, [], ◌∷◌, ◌++◌}
use mathlib.Core.Path.{◌≡◌, refl, sym, ap, ◌∙◌}
use native.Mathlib.Omega.{arith}
use lib.ListN.{length, get_or, take, drop, length-append, length-drop, drop_of_length-le}
use lib.Seq.{take-append_seam}
use Rattle.std.proofs.lemmas.List.{drop_more}
use Rattle.words.specs.Words.{blank, past_run, front, past, begins}

-- a byte that is a blank where blanks are passed, or none where they are not
passed : (b : Bool) → cond b b (not b) ≡ true
passed true = refl
passed false = refl

stopped : (b t : Bool) → (t ≡ b → ⊥) → cond b t (not t) ≡ false
stopped true true h = absurd (h refl)
stopped true false h = refl
stopped false true h = refl
stopped false false h = absurd (h refl)

module _ (line : List ℕ) (i : ℕ) where
  -- a byte of the run is passed, any other is its end
  module _ (blanks : Bool) where
    pub run_more : i < length line → blank (get_or line i 0) ≡ blanks → past_run blanks (drop (i + 1) line) ≡ past_run blanks (drop i line)
    unfolding past_run
    run_more h e = rw (drop_more line i 0 h, e, passed blanks)

    pub run_stop : i < length line → (blank (get_or line i 0) ≡ blanks → ⊥) → past_run blanks (drop i line) ≡ drop i line
    unfolding past_run
    run_stop h e = rw (drop_more line i 0 h, stopped blanks (blank (get_or line i 0)) e)

    pub run_end : length line ≤ i → past_run blanks (drop i line) ≡ drop i line
    unfolding past_run
    run_end h = rw (drop_of_length-le line h)

  -- a word begins at a byte, or not
  module _ (inside : Bool) where
    pub begins_next : i < length line → begins inside (drop i line) ≡ cond (inside || blank (get_or line i 0)) 0 1 + begins (not (blank (get_or line i 0))) (drop (i + 1) line)
    unfolding begins
    begins_next h = rw (drop_more line i 0 h)

    pub begins_end : length line ≤ i → begins inside (drop i line) ≡ 0
    unfolding begins
    begins_end h = rw (drop_of_length-le line h)

-- for `grind`: a run over a line, and a count
pub ruleset runs = (run_more, run_stop, run_end)

pub ruleset count = (begins_next, begins_end)

-- a list is its first word and what is left past it
parts : (list : List ℕ) → front list ++ past list ≡ list
unfolding front past_run
parts [] = refl
parts (byte ∷ rest) = go (blank byte) (parts rest)
  where
    go : (b : Bool) → front rest ++ past rest ≡ rest → cond b [] (byte ∷ front rest) ++ cond (not b) (past rest) (byte ∷ rest) ≡ byte ∷ rest
    go true e = refl
    go false e = ap (λ (l : List ℕ). byte ∷ l) e

-- the word that ends at a place, by what is left there
pub front_is : (line : List ℕ) (from to : ℕ) → from ≤ to → to ≤ length line → drop to line ≡ past (drop from line) → take (to - from) (drop from line) ≡ front (drop from line)
front_is line from to h k e =
    let long : length (front (drop from line)) + length (past (drop from line)) ≡ length line - from = sym (length-append (front (drop from line)) (past (drop from line))) ∙ ap length (parts (drop from line)) ∙ length-drop from line in
    let left : length (past (drop from line)) ≡ length line - to = ap length (sym e) ∙ length-drop to line in
    let size : to - from ≡ length (front (drop from line)) = omega arith in
    ap (λ (l : List ℕ). take (to - from) l) (sym (parts (drop from line))) ∙ rw size (take-append_seam (front (drop from line)) (past (drop from line)))
