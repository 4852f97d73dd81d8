-- The script's lines that poke picture memory, in hexadecimal. Assumes nothing.
use Rattle.std.specs.Prelude.{ℕ, List, [], ◌∷◌, ◌++◌, length, get_or}
use Rattle.room.specs.Room.{texts_of}
use Rattle.text.specs.Ascii.{ascii}
use Rattle.text.specs.Hex.{hex_text, byte_text}
use Rattle.text.specs.Lines.{line_end}

-- `poke`, a place, and each byte of a part of the memory
abbrev pub poke_texts : ℕ → List ℕ → List (List ℕ)
poke_texts place part = ascii "poke " ∷ hex_text place ∷ texts_of (λ i. ascii " #" ∷ byte_text (get_or part i 0) ∷ []) (length part) ++ (line_end ∷ [])
