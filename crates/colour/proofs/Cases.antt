-- Cases of this crate's functions: a table that is filled. Assumes nothing.
use Prim.Native.Nat.{ℕ, ◌<◌}
use mathlib.Core.Path.{◌≡◌, sym, ◌∙◌}
use mathlib.Core.List.{List}
use native.Mathlib.Omega.{arith}
use lib.ListN.{length, get_or}
use lib.Seq.{ext_get_or}
use Rattle.colour.specs.Colour.{masked_colour, masked_palette}
use Rattle.colour.proofs.Laws.{masked_palette_length, masked_palette_entry}

-- a table filled from its first entry to its last is the masked palette
pub filled_all : (l palette : List ℕ) (mask : ℕ) → length l ≡ 256 → ((k : ℕ) → k < 256 → get_or l k 0 ≡ masked_colour palette mask k) → l ≡ masked_palette palette mask
filled_all l palette mask e filled =
    ext_get_or 0 l (masked_palette palette mask) (e ∙ sym (masked_palette_length palette mask))
    (λ k h. let below : k < 256 = omega arith in filled k below ∙ sym (masked_palette_entry palette mask k below))
