-- `text::rows::put_row` meets its contract: each turn puts the texts of one byte more.
use Prim.Native.Nat.{ℕ}
use mathlib.Core.List.{List, [], ◌∷◌}
use mathlib.Core.Path.{◌≡◌}
use lib.ListN.{length, get_or}
use Rattle.room.specs.Room.{texts_of}
use Rattle.room.proofs.Laying.{Puts}
use Rattle.text.specs.Hex.{byte_text}
use Rattle.text.proofs.rows.put_row.Given as goal

abbrev texts : List ℕ → ℕ → List (List ℕ)
texts bytes i = byte_text (get_or bytes i 0) ∷ []

abbrev pub invariant-loop-byte : goal.invariant-loop-byte
invariant-loop-byte l = (length l.room ≡ length l.initial.room) × Puts l.initial.room l.at (texts_of (texts l.bytes) l.byte-index) l.room l.end
