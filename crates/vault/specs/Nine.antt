-- The nine bytes to compare (01, "Rows and pixels"): #0C0, #0C1, #0C2, each red, green, blue. Assumes nothing.
use Rattle.std.specs.Prelude.{ℕ, List, [], ◌∷◌, ◌++◌, get_or}
use Rattle.base.specs.Channels.{red, green, blue}

-- of one word
abbrev pub channels : ℕ → List ℕ
channels word = red word ∷ green word ∷ blue word ∷ []

-- of the three words, in the order of their addresses
abbrev pub nine_bytes : List ℕ → List ℕ
nine_bytes words = channels (get_or words 0 0) ++ channels (get_or words 1 0) ++ channels (get_or words 2 0)
