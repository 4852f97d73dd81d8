-- `scribe::settings::put_rows` meets its contract: each turn puts the texts of one row more.
use Prim.Native.Nat.{ℕ}
use mathlib.Core.Path.{◌≡◌}
use mathlib.Core.List.{List}
use lib.ListN.{length, get_or}
use Rattle.room.specs.Room.{texts_of}
use Rattle.room.proofs.Laying.{Puts}
use Rattle.scribe.specs.Settings.{write_texts}
use Rattle.scribe.proofs.settings.put_rows.Given as goal

abbrev texts : List (ℕ × ℕ) → ℕ → List (List ℕ)
texts rows i = write_texts (get_or rows i (0, 0)).0 (get_or rows i (0, 0)).1

abbrev pub invariant-loop-address : goal.invariant-loop-address
invariant-loop-address l = (length l.room ≡ length l.initial.room) × Puts l.initial.room l.at (texts_of (texts l.rows) l.address-index) l.room l.end
