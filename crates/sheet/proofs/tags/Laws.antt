-- The tags' own rule, and the length of an encoding. Assumes nothing.
use Prim.Native.Nat.{ℕ, ◌+◌, ◌*◌, ◌<◌}
use mathlib.Core.Path.{◌≡◌, refl}
use mathlib.Core.List.{List, [], ◌∷◌}
use native.Mathlib.Omega.{arith}
use lib.Dec.{eqb, eqb→eq}
use lib.ListN.{length, get_or}
use Rattle.base.proofs.Table.{entry}
use Rattle.sheet.specs.Encoding.{tags, fields, encoding}

-- the tag of field k is #21 + k
pub tag_rule : (k : ℕ) → k < 14 → get_or tags k 0 ≡ 0x21 + k
tag_rule k h = eqb→eq _ _ (entry (λ place tag. eqb tag (0x21 + place)) tags tt k h)

length_fields : (due values : List ℕ) → length values ≡ length due → length (fields due values) ≡ 5 * length due
unfolding fields
length_fields [] values e = refl
length_fields (tag ∷ due) [] e = absurd (omega arith)
length_fields (tag ∷ due) (value ∷ values) e = omega (arith, length_fields due values (omega arith))

-- a sheet has 70 bytes
pub length_encoding : (values : List ℕ) → length values ≡ 14 → length (encoding values) ≡ 70
length_encoding values e = length_fields tags values e
