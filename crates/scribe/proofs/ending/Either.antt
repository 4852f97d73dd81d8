-- One of two texts is the text of its room. Assumes nothing.
use Prim.Native.Nat.{ℕ}
use mathlib.Core.Path.{◌≡◌}
use mathlib.Core.Bool.{Bool, true, false, cond}
use mathlib.Core.List.{List}
use lib.ListN.{length}
use Rattle.room.specs.Room.{put_text, put_end}

pub either_put : (text : Bool → List ℕ) (one other : List ℕ) → one ≡ text true → other ≡ text false → (n : Bool) (room : List ℕ) (at : ℕ) (end : ℕ) (after : List ℕ) →
    (end ≡ put_end room at (length (cond n one other))) × (after ≡ put_text room at (cond n one other)) → (end ≡ put_end room at (length (text n))) × (after ≡ put_text room at (text n))
either_put text one other e f false room at end after p = rw (← f) p
either_put text one other e f true room at end after p = rw (← e) p
