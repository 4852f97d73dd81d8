-- What reading comes to, for callers: which sheets are accepted. Assumes nothing.
use Prim.Native.Nat.{ℕ, zero, suc, ◌+◌, ◌*◌, ◌/◌, ◌%◌, ◌≤◌}
use mathlib.Core.Path.{◌≡◌, refl}
use mathlib.Core.Bool.{Bool, true, false, not, cond}
use mathlib.Core.List.{List, [], ◌∷◌}
use native.Mathlib.Omega.{arith}
use borrow.Author.Tests.{eq-eqb, le-ltb, ltb-false, eqb-true}
use lib.Dec.{eqb, ltb, eqb-suc-zero}
use lib.ListN.{length, get_or, drop}
use lib.Seq.{drop-cons, get_or-drop}
use Rattle.sheet.specs.Encoding.{tags, fields, over, Bytes, Encodes}
use Rattle.sheet.specs.Reader.{pair, field_refusal, refusal_from, values_from, read_sheet}
use Rattle.sheet.specs.declared.Sheet.{Sheet}

-- ---- an encoding is accepted
read_fields : (due values : List ℕ) → length values ≡ length due → (refusal_from due (fields due values) ≡ 0) × (values_from due (fields due values) ≡ values)
unfolding fields refusal_from values_from
read_fields [] [] e = (refl, refl)
read_fields [] (value ∷ values) e = absurd (omega arith)
read_fields (tag ∷ due) [] e = absurd (omega arith)
read_fields (tag ∷ due) (value ∷ values) e =
    let rest = read_fields due values (omega arith) in
    let size = length (fields (tag ∷ due) (value ∷ values)) in
    let whole : 256 * (value / 256) + value % 256 ≡ value = omega arith in
    (simp (le-ltb size 3 (omega arith), eq-eqb tag tag refl, le-ltb size 5 (omega arith)) rest.0, rw (whole, rest.1))

-- a sheet that encodes fourteen values is accepted, and gives them
pub encoding_accepted : (values sheet : List ℕ) → Encodes values sheet → ◌≡◌ {A = Sheet} (read_sheet sheet) (record { refusal = 0; values = values })
encoding_accepted values sheet e =
    let read = read_fields tags values e.fourteen in
    rw (← e.bytes, read.0, read.1)

-- ---- only an encoding is accepted
passed : (refusal rest : ℕ) → cond (eqb refusal 0) rest refusal ≡ 0 → (refusal ≡ 0) × (rest ≡ 0)
passed zero rest e = (refl, e)
passed (suc refusal) rest e = absurd (omega (arith, rw eqb-suc-zero at e))

clear : (short tag two late : Bool) → ◌≡◌ {A = ℕ} (cond short 30 (cond (not tag) 31 (cond (not two) 32 (cond late 30 0)))) 0 → (tag ≡ true) × (two ≡ true) × (late ≡ false)
clear false true true false e = (refl, refl, refl)
clear true tag two late e = absurd (omega (arith, e))
clear false false two late e = absurd (omega (arith, e))
clear false true false late e = absurd (omega (arith, e))
clear false true true true e = absurd (omega (arith, e))

split : (left : List ℕ) → 5 ≤ length left → left ≡ get_or left 0 0 ∷ get_or left 1 0 ∷ get_or left 2 0 ∷ get_or left 3 0 ∷ get_or left 4 0 ∷ drop 5 left
split left h = rw (← drop-cons left 4 0 (omega arith), ← drop-cons left 3 0 (omega arith), ← drop-cons left 2 0 (omega arith), ← drop-cons left 1 0 (omega arith), ← drop-cons left 0 0 (omega arith))

only_fields : (due left : List ℕ) → Bytes left → refusal_from due left ≡ 0 → (length (values_from due left) ≡ length due) × (over (values_from due left) ≡ false) × (fields due (values_from due left) ≡ left)
unfolding fields refusal_from values_from over
only_fields [] [] small e = (refl, refl, refl)
only_fields [] (byte ∷ left) small e = absurd (omega (arith, rw eqb-suc-zero at e))
only_fields (tag ∷ due) left small e =
    let both = passed (field_refusal tag left) (refusal_from due (drop 5 left)) e in
    let tests = clear (ltb (length left) 3) (eqb (get_or left 0 0) tag) (eqb (pair left 1) 2) (ltb (length left) 5) both.0 in
    let rest = only_fields due (drop 5 left) (λ k. rw get_or-drop (small (5 + k))) both.1 in
    let high = small 3 in
    let low = small 4 in
    let same : get_or left 0 0 ≡ tag = eqb-true _ _ tests.0 in
    let two : pair left 1 ≡ 2 = eqb-true _ _ tests.1 in
    let zero₁ : get_or left 1 0 ≡ 0 = omega arith in
    let two₂ : get_or left 2 0 ≡ 2 = omega arith in
    let high₃ : pair left 3 / 256 ≡ get_or left 3 0 = omega arith in
    let low₄ : pair left 3 % 256 ≡ get_or left 4 0 = omega arith in
    let whole = split left (ltb-false (length left) 5 tests.2) in
    (omega (arith, rest.0), rw (le-ltb 65535 (pair left 3) (omega arith)) rest.1, cc rest.2)

-- an accepted sheet encodes the values that it gives
pub accepted_encoding : (sheet : List ℕ) → Bytes sheet → (read_sheet sheet).refusal ≡ 0 → Encodes (read_sheet sheet).values sheet
accepted_encoding sheet small e =
    let only = only_fields tags sheet small e in
    rw (eq-eqb (refusal_from tags sheet) 0 e) (record { fourteen = only.0; small = only.1; bytes = only.2 })
