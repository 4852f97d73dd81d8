-- `text::rows::put_values` meets its contract: each turn puts the texts of one number more.
use Prim.Native.Nat.{ℕ}
use mathlib.Core.List.{List, [], ◌∷◌}
use mathlib.Core.Path.{◌≡◌}
use lib.ListN.{length, get_or}
use Rattle.room.specs.Room.{texts_of}
use Rattle.room.proofs.Laying.{Puts}
use Rattle.text.specs.Decimal.{decimal_text}
use Rattle.text.proofs.rows.put_values.Given as goal

abbrev texts : List ℕ → ℕ → List (List ℕ)
texts values i = (32 ∷ []) ∷ decimal_text (get_or values i 0) ∷ []

abbrev pub invariant-loop-value : goal.invariant-loop-value
invariant-loop-value l = (length l.room ≡ length l.initial.room) × Puts l.initial.room l.at (texts_of (texts l.values) l.value-index) l.room l.end
