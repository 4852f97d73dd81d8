-- The phrases that lines are made of (docs/SCRIPT.md). Assumes nothing.
use Rattle.std.specs.Prelude.{ℕ, Bool, cond, List, [], ◌∷◌, eqb}
use Rattle.words.specs.Faults.{unknown_command, too_few_words, too_many_words, not_a_number, number_too_large, beyond_the_memory, too_large}
use Rattle.text.specs.Ascii.{ascii}
use Rattle.text.specs.Hex.{hex_text}

-- a wire's name and its level
abbrev pub level_texts : List ℕ → Bool → List (List ℕ)
level_texts name high = name ∷ cond high (ascii "1 ") (ascii "0 ") ∷ []

-- the address of a tick, `-` where none is answered
abbrev pub address_texts : Bool → ℕ → List (List ℕ)
address_texts answered address = ascii "address=" ∷ cond answered (hex_text address) (ascii "-") ∷ []

-- a blank and a colour
abbrev pub colour_texts : ℕ → List (List ℕ)
colour_texts colour = ascii " " ∷ hex_text colour ∷ []

-- a fault's reason
abbrev pub reason_text : ℕ → List ℕ
reason_text fault =
    cond (eqb fault unknown_command) (ascii "unknown command")
    (cond (eqb fault too_few_words) (ascii "too few words")
    (cond (eqb fault too_many_words) (ascii "too many words")
    (cond (eqb fault not_a_number) (ascii "not a number")
    (cond (eqb fault number_too_large) (ascii "number too large")
    (cond (eqb fault beyond_the_memory) (ascii "beyond the memory")
    (cond (eqb fault too_large) (ascii "too large")
    (ascii "too long")))))))
