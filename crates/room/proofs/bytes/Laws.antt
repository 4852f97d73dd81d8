-- For callers: the first bytes of those that numbers give. Assumes nothing.
use Prim.Native.Nat.{ℕ}
use mathlib.Core.List.{List}
use mathlib.Core.Path.{◌≡◌, ◌∙◌}
use lib.ListN.{take}
use Rattle.room.specs.Bytes.{bytes_from}

-- what is lent of them, by how many are asked for
pub part_is : (values : List ℕ) (from count k : ℕ) (bytes part : List ℕ) → bytes ≡ bytes_from values from → k ≡ count → part ≡ take k bytes → part ≡ take count (bytes_from values from)
part_is values from count k bytes part eb ek e = e ∙ rw (eb, ek)
