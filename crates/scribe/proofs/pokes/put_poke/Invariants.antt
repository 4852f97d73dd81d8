-- `scribe::pokes::put_poke` meets its contract: each turn puts the texts of one byte more.
use Prim.Native.Nat.{ℕ}
use mathlib.Core.Path.{◌≡◌}
use mathlib.Core.List.{List, [], ◌∷◌}
use lib.ListN.{length, get_or}
use Rattle.room.specs.Room.{texts_of}
use Rattle.room.proofs.Laying.{Puts}
use Rattle.text.specs.Ascii.{ascii}
use Rattle.text.specs.Hex.{byte_text}
use Rattle.scribe.proofs.pokes.put_poke.Given as goal

abbrev texts : List ℕ → ℕ → List (List ℕ)
texts part i = ascii " #" ∷ byte_text (get_or part i 0) ∷ []

abbrev pub invariant-loop-byte : goal.invariant-loop-byte
invariant-loop-byte l = (length l.room ≡ length l.initial.room) × Puts l.initial.room l.initial.end (texts_of (texts l.part) l.byte-index) l.room l.end
