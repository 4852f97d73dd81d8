-- The head of a PPM. Assumes nothing.
use Rattle.std.specs.Prelude.{ℕ, List, [], ◌∷◌}
use Rattle.text.specs.Ascii.{ascii}
use Rattle.text.specs.Decimal.{decimal_text}

-- its kind, width and height, and the largest value of a colour
abbrev pub ppm_texts : ℕ → ℕ → List (List ℕ)
ppm_texts width height = ascii "P6\n" ∷ decimal_text width ∷ ascii " " ∷ decimal_text height ∷ ascii "\n255\n" ∷ []
