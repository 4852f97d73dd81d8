-- Bytes and numbers as lines (docs/SCRIPT.md), each as its texts in order. Assumes nothing.
use Rattle.std.specs.Prelude.{ℕ, List, [], ◌∷◌, ◌++◌, length, get_or}
use Rattle.room.specs.Room.{texts_of}
use Rattle.text.specs.Hex.{byte_text}
use Rattle.text.specs.Decimal.{decimal_text}
use Rattle.text.specs.Lines.{line_end}

-- bytes as a line of hexadecimal digits
abbrev pub row_texts : List ℕ → List (List ℕ)
row_texts bytes = texts_of (λ i. byte_text (get_or bytes i 0) ∷ []) (length bytes) ++ (line_end ∷ [])

-- numbers in decimal, a blank before each
abbrev pub values_texts : List ℕ → List (List ℕ)
values_texts values = texts_of (λ i. (32 ∷ []) ∷ decimal_text (get_or values i 0) ∷ []) (length values) ++ (line_end ∷ [])
