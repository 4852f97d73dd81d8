-- Bytes put into a lent room. Assumes nothing.
use Rattle.std.specs.Prelude.{ℕ, zero, suc, ◌+◌, ◌-◌, ◌≤◌, Bool, cond, ◌&&◌, List, [], ◌∷◌, ◌++◌, ◌≡◌, ltb, leb, length, get_or, set}

-- a room with n bytes laid into it from a place on
unfoldable pub laid : (ℕ → ℕ) → List ℕ → ℕ → ℕ → List ℕ
laid byte room at zero = room
laid byte room at (suc i) = set (laid byte room at i) (at + i) (byte i)

-- bytes fit into a room from a place on
abbrev pub fits : List ℕ → ℕ → ℕ → Bool
fits room at count = leb at (length room) && leb count (length room - at)

-- the room after a text was put at a place: as it was where the text does not fit
unfoldable pub put_text : List ℕ → ℕ → List ℕ → List ℕ
put_text room at text = cond (fits room at (length text)) (laid (λ i. get_or text i 0) room at (length text)) room

-- the place past it; never past the room's end
unfoldable pub put_end : List ℕ → ℕ → ℕ → ℕ
put_end room at count = cond (ltb (length room) at) (length room) (cond (ltb (length room - at) count) at (at + count))

-- the texts that n things have, each after those of the one before
unfoldable pub texts_of : (ℕ → List (List ℕ)) → ℕ → List (List ℕ)
texts_of texts zero = []
texts_of texts (suc i) = texts_of texts i ++ texts i

-- texts put one after the other, each where the one before ended: the room after them, and the place past the last
unfoldable pub put_texts : List ℕ → ℕ → List (List ℕ) → List ℕ
put_texts room at [] = room
put_texts room at (text ∷ rest) = put_texts (put_text room at text) (put_end room at (length text)) rest

unfoldable pub put_ends : List ℕ → ℕ → List (List ℕ) → ℕ
put_ends room at [] = at
put_ends room at (text ∷ rest) = put_ends (put_text room at text) (put_end room at (length text)) rest

-- a place within a room whose length is kept
pub record KeptRoom (before after : List ℕ) (place : ℕ) : Type 0 where
  pub end : place ≤ length before
  pub same : length after ≡ length before
