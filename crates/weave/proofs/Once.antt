-- Each pixel stands once: both ways between a pixel's number in its field and its place along the field's rows. Assumes nothing.
use Prim.Native.Nat.{ℕ, ◌+◌, ◌-◌, ◌*◌, ◌/◌, ◌%◌, ◌≤◌, ◌<◌}
use mathlib.Core.Bool.{Bool, true, false, not, cond}
use mathlib.Core.List.{[], ◌∷◌}
use mathlib.Core.Logic.{⊎_elim}
use mathlib.Core.Path.{◌≡◌, refl, ap, subst, ◌∙◌}
use native.Mathlib.Nat.{mul-le-mul_left, mul-le-mul_right, mod-lt, div-add-mod'}
use native.Mathlib.Omega.{arith}
use borrow.Author.Tests.{ltb-true, ltb-false, leb-true, eqb-true, eqb-false, not-false, lt-ltb, le-ltb, eq-eqb, ne_eqb}
use lib.Dec.{ltb, leb, eqb}
use Rattle.base.specs.Count.{run}
use Rattle.base.proofs.Bools.{below, both_hold, neither_holds}
use Rattle.weave.specs.declared.Weave.{Weave}
use Rattle.weave.specs.Weave.{is_weave, start_of, pixels_of, begin_of, is_of_b, lacked, pixel_at, byte_at}
use Rattle.weave.specs.Once.{row_in, in_row, place_in, field_of, place_of, Shown, Once, example_file}
use Rattle.weave.proofs.Places.{row_of, column_of, byte_at_lem}

-- rows of a field: which they are in the file, and each row of the file is one
of_field : (b : Bool) (i : ℕ) → is_of_b (row_in b i) ≡ b
of_field true i = eq-eqb (row_in true i % 2) 0 (omega arith)
of_field false i = ne_eqb (row_in false i % 2) 0 (omega arith)

in_field : (b : Bool) (i : ℕ) → row_in b i / 2 ≡ i
in_field true i = omega arith
in_field false i = omega arith

by_field : (P : ℕ → Type 0) → ((b : Bool) (i : ℕ) → P (row_in b i)) → (row : ℕ) → P row
by_field P each row = go (is_of_b row) refl
  where
    go : (b : Bool) → is_of_b row ≡ b → P row
    go true e = subst (λ (n : ℕ). P n) (omega (arith, eqb-true (row % 2) 0 e)) (each true (row / 2))
    go false e = subst (λ (n : ℕ). P n) (omega (arith, eqb-false (row % 2) 0 e)) (each false (row / 2))

module _ (w : Weave) (weave : is_weave w ≡ true) where
  half_in : w.half ≤ w.width
  half_in = leb-true w.half w.width (both_hold _ (eqb (w.lines % 2) 1) weave).0

  odd : w.lines ≡ 2 * (w.lines / 2) + 1
  odd = omega (arith, eqb-true (w.lines % 2) 1 (both_hold (leb w.half w.width) _ weave).1)

  pub both_fields : pixels_of w true + pixels_of w false ≡ w.lines * w.width
  both_fields = omega (arith, half_in, ap (λ (n : ℕ). n * w.width) odd)

  some_width : (p : ℕ) → p < w.lines * w.width → 0 < w.width
  some_width p h = ⊎_elim (λ some. some) (λ none. absurd (omega (arith, mul-le-mul_left w.lines none))) (below 0 w.width)

  -- a field has no pixel below the file's last row
  row_in_lem : (b : Bool) (i column : ℕ) → i * w.width + column < start_of w b + pixels_of w b → row_in b i ≤ w.lines
  row_in_lem b i column h = ⊎_elim (λ past. absurd (omega (arith, ends b, mul-le-mul_right w.width past))) (last b) (below (w.lines / 2) i)
    where
      ends : (b : Bool) → start_of w b + pixels_of w b ≤ w.lines / 2 * w.width + w.width
      ends true = omega (arith, half_in)
      ends false = omega (arith, half_in)

      last : (b : Bool) → i ≤ w.lines / 2 → row_in b i ≤ w.lines
      last true l = omega (arith, odd)
      last false l = omega (arith, odd)

  module _ (b : Bool) (i column : ℕ) where
    shown_in : column < w.width → start_of w b ≤ i * w.width + column → i * w.width + column < start_of w b + pixels_of w b → Shown w (in_row b i column)
    unfolding lacked
    shown_in inside from until =
        record {
          row = row_in_lem b i column until;
          column = inside;
          there = rw (of_field b i, in_field b i, le-ltb (i * w.width + column) (start_of w b) from, lt-ltb (i * w.width + column) (start_of w b + pixels_of w b) until);
        }

    along_in : Shown w (in_row b i column) → (start_of w b ≤ i * w.width + column) × (i * w.width + column < start_of w b + pixels_of w b)
    unfolding lacked
    along_in s =
        let there = neither_holds _ _ (rw (of_field b i, in_field b i) at s.there) in
        (ltb-false _ _ there.0, ltb-true _ _ (not-false _ there.1))

    pixel_in : pixel_at w (row_in b i) column ≡ begin_of w b + (i * w.width + column - start_of w b)
    unfolding pixel_at
    pixel_in = rw (of_field b i, in_field b i)

  placed_in : (b : Bool) (n : ℕ) → 0 < w.width → n < pixels_of w b → Shown w (place_in w b n) × (pixel_at w (place_in w b n).row (place_in w b n).column ≡ begin_of w b + n)
  placed_in b n some h =
      let i = (n + start_of w b) / w.width in
      let column = (n + start_of w b) % w.width in
      let whole : i * w.width + column ≡ n + start_of w b = div-add-mod' (n + start_of w b) w.width in
      (shown_in b i column (mod-lt (n + start_of w b) some) (omega arith) (omega arith), pixel_in b i column ∙ omega arith)

  -- a pixel's field, and the picture's pixel that a field's is
  of_picture : (p : ℕ) → p < w.lines * w.width → (begin_of w (field_of w p) ≤ p) × (p - begin_of w (field_of w p) < pixels_of w (field_of w p))
  of_picture p h = go w.late (ltb p (pixels_of w w.late)) refl
    where
      go : (late t : Bool) → ltb p (pixels_of w late) ≡ t → let b = cond t late (not late) in let begin = cond b (cond late 0 (pixels_of w false)) (cond late (pixels_of w true) 0) in (begin ≤ p) × (p - begin < pixels_of w b)
      go true true e = omega (arith, ltb-true p (pixels_of w true) e)
      go true false e = omega (arith, both_fields, ltb-false p (pixels_of w true) e)
      go false true e = omega (arith, ltb-true p (pixels_of w false) e)
      go false false e = omega (arith, both_fields, ltb-false p (pixels_of w false) e)

  in_picture : (b : Bool) (n : ℕ) → n < pixels_of w b → (field_of w (begin_of w b + n) ≡ b) × (begin_of w b + n < w.lines * w.width)
  in_picture b n = go w.late b
    where
      go : (late b : Bool) → n < pixels_of w b → let p = cond b (cond late 0 (pixels_of w false)) (cond late (pixels_of w true) 0) + n in (cond (ltb p (pixels_of w late)) late (not late) ≡ b) × (p < w.lines * w.width)
      go true true h = (rw (lt-ltb (0 + n) (pixels_of w true) (omega arith)), omega (arith, both_fields))
      go true false h = (rw (le-ltb (pixels_of w true + n) (pixels_of w true) (omega arith)), omega (arith, both_fields))
      go false true h = (rw (le-ltb (pixels_of w false + n) (pixels_of w false) (omega arith)), omega (arith, both_fields))
      go false false h = (rw (lt-ltb (0 + n) (pixels_of w false) (omega arith)), omega (arith, both_fields))

  placed : (p : ℕ) → p < w.lines * w.width → Shown w (place_of w p) × (pixel_at w (place_of w p).row (place_of w p).column ≡ p)
  unfolding place_of
  placed p h =
      let of = of_picture p h in
      let at = placed_in (field_of w p) (p - begin_of w (field_of w p)) (some_width p h) of.1 in
      (at.0, at.1 ∙ omega (arith, of.0))

  abbrev Found : ℕ → ℕ → Type 0
  Found row column = (pixel_at w row column < w.lines * w.width) × (place_of w (pixel_at w row column) ≡ record { row = row; column = column })

  found : (column row : ℕ) → Shown w (record { row = row; column = column }) → Found row column
  unfolding place_of
  found column = by_field (λ row. Shown w (record { row = row; column = column }) → Found row column) each
    where
      each : (b : Bool) (i : ℕ) → Shown w (in_row b i column) → Found (row_in b i) column
      each b i s =
          let along = along_in b i column s in
          let n = i * w.width + column - start_of w b in
          let of = in_picture b n (omega (arith, along)) in
          let back : begin_of w b + n - begin_of w b + start_of w b ≡ i * w.width + column = omega (arith, along) in
          rw (pixel_in b i column) (of.1, rw (of.0, back, row_of w.width i column s.column, column_of w.width i column s.column))

  pub once : Once w
  once =
      record {
        placed = placed;
        found = λ at. found at.column at.row;
        shown = λ picture p channel h c. let at = placed p h in byte_at_lem w picture (place_of w p).row (place_of w p).column channel at.0.column c ∙ rw (at.0.there, at.1);
        black = λ picture row column channel h c lacks. byte_at_lem w picture row column channel h c ∙ rw lacks;
      }

-- A first, with four pixels; and B first, with five
pub example_file_lem : (example_file false ≡ 0 ∷ 5 ∷ 6 ∷ 1 ∷ 2 ∷ 3 ∷ 7 ∷ 8 ∷ 9 ∷ 4 ∷ 0 ∷ 0 ∷ []) × (example_file true ≡ 0 ∷ 1 ∷ 2 ∷ 6 ∷ 7 ∷ 8 ∷ 3 ∷ 4 ∷ 5 ∷ 9 ∷ 0 ∷ 0 ∷ [])
unfolding run byte_at lacked pixel_at
example_file_lem = (refl, refl)
