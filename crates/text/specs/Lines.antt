-- Lines that programs write (docs/SCRIPT.md), each as its texts in order. Assumes nothing.
use Rattle.std.specs.Prelude.{ℕ, List, [], ◌∷◌}
use Rattle.text.specs.Decimal.{decimal_text}

-- a line's end
abbrev pub line_end : List ℕ
line_end = 10 ∷ []

-- a text, a number in decimal, and a line's end
abbrev pub count_texts : List ℕ → ℕ → List (List ℕ)
count_texts text value = text ∷ decimal_text value ∷ line_end ∷ []
