-- What one field by its tag comes to. Assumes nothing.
use Prim.Native.Nat.{ℕ, ◌+◌, ◌-◌, ◌≤◌, ◌<◌}
use mathlib.Core.Path.{◌≡◌}
use mathlib.Core.List.{List}
use native.Mathlib.Omega.{arith}
use borrow.Author.Tests.{le-ltb}
use lib.ListN.{get_or}
use Rattle.sheet.proofs.tags.Laws.{tag_rule}
use Rattle.sheet.specs.Encoding.{tags}
use Rattle.sheet.specs.Reader.{read_sheet}
use Rattle.sheet.specs.declared.Sheet.{Sheet}
use Rattle.sheet.specs.Field.{field_of}
use Rattle.sheet.specs.declared.field.Answer.{Answer}

-- the tag of field k asks for value k
pub field_by_tag : (sheet : List ℕ) (k : ℕ) → k < 14 → ◌≡◌ {A = Answer} (field_of sheet (get_or tags k 0)) (record { refusal = (read_sheet sheet).refusal; value = get_or (read_sheet sheet).values k 0 })
field_by_tag sheet k h =
    let place : 0x21 + k - 0x21 ≡ k = omega arith in
    rw (tag_rule k h) (simp (le-ltb (0x21 + k) 0x21 (omega arith), le-ltb 0x2E (0x21 + k) (omega arith), place))

-- a tag of the sheet's own
pub found : (sheet : List ℕ) (tag : ℕ) (whole : Sheet) → whole ≡ read_sheet sheet → 0x21 ≤ tag → tag ≤ 0x2E → ◌≡◌ {A = Answer} (record { refusal = whole.refusal; value = get_or whole.values (tag - 0x21) 0 }) (field_of sheet tag)
found sheet tag whole e low high = simp (le-ltb tag 0x21 low, le-ltb 0x2E tag high, e)
