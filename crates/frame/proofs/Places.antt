-- The places of a field's pixels: they rise one by one within a row, and from row to row; those of two fields lie apart, but for code 00; and with
-- one field they are a run. Assumes nothing.
use Prim.Native.Nat.{ℕ, ◌+◌, ◌*◌, ◌/◌, ◌%◌, ◌≤◌, ◌<◌}
use mathlib.Core.Bool.{Bool, true, false, cond}
use mathlib.Core.Logic.{⊎_elim}
use mathlib.Core.Path.{◌≡◌, refl, sym, ap, ◌∙◌}
use native.Mathlib.Nat.{mod-lt, div-add-mod', div-eq_of_lt-le, add-div_right, mul-le-mul_right, mul-one, add-zero}
use native.Mathlib.Omega.{arith}
use borrow.Author.Tests.{ne_eqb}
use lib.Dec.{eqb}
use Rattle.base.proofs.Bools.{below}
use Rattle.control.specs.Control.{interlaced, increment_code, offset, row_divisor, row_step}
use Rattle.control.proofs.Laws.{divisor_interlaced, offset_positive}
use Rattle.units.specs.Parameters.{screen_of}
use Rattle.screen.specs.Limits.{Accepted}
use Rattle.registers.specs.declared.Registers.{Registers}
use Rattle.generator.specs.Rows.{screen, row_number}
use Rattle.frame.specs.Demand.{first_address, row_pixels, first_place, field_place}
use Rattle.frame.proofs.Place.{rows_some}

-- the screen's format is the control word's
pub format_is : (r : Registers) → (screen r).interlaced ≡ interlaced r.control
unfolding screen_of
format_is r = refl

step_some : (control : ℕ) → 0 < row_step control
step_some control = go (interlaced control) (eqb (increment_code control) 0)
  where
    go : (a b : Bool) → 0 < cond a (cond b 1 2) 1
    go true true = omega arith
    go true false = omega arith
    go false b = omega arith

module _ (r : Registers) (ok : Accepted r.control (screen r)) where
  row_some : 0 < row_pixels r
  row_some = omega (arith, rows_some r.control (screen r) ok)

  abbrev P : ℕ
  P = row_pixels r

  module _ (second : Bool) where
    -- one by one within a row
    pub place_next : (i : ℕ) → (i + 1) / P ≡ i / P → field_place r second (i + 1) ≡ field_place r second i + 1
    unfolding field_place
    place_next i e =
        let rest : (i + 1) % P ≡ i % P + 1 = omega (arith, div-add-mod' (i + 1) P, div-add-mod' i P, ap (λ (k : ℕ). k * P) e) in
        rw (e, rest) (omega arith)

    -- and from each to every later one
    pub place_rises : (i j : ℕ) → i < j → field_place r second i < field_place r second j
    unfolding field_place
    place_rises i j l = ⊎_elim later same (below (i / P) (j / P))
      where
        later : i / P < j / P → (row_number r (first_address r second) + i / P * row_step r.control) * P + i % P < (row_number r (first_address r second) + j / P * row_step r.control) * P + j % P
        later p =
            let step = mul-le-mul_right (row_step r.control) p in
            let rows : row_number r (first_address r second) + i / P * row_step r.control + 1 ≤ row_number r (first_address r second) + j / P * row_step r.control = omega (arith, step, step_some r.control) in
            omega (arith, mul-le-mul_right P rows, mod-lt i row_some)

        same : j / P ≤ i / P → (row_number r (first_address r second) + i / P * row_step r.control) * P + i % P < (row_number r (first_address r second) + j / P * row_step r.control) * P + j % P
        same p =
            let e : i / P ≡ j / P =
            ⊎_elim (λ q. absurd (omega (arith, mul-le-mul_right P q, div-add-mod' i P, div-add-mod' j P, mod-lt j row_some))) (λ q. omega arith) (below (j / P) (i / P)) in
            rw e (omega (arith, div-add-mod' i P, div-add-mod' j P, ap (λ (k : ℕ). k * P) e))

    row_of : (i : ℕ) → field_place r second i / P ≡ row_number r (first_address r second) + i / P * row_step r.control
    unfolding field_place
    row_of i = div-eq_of_lt-le P (omega arith) (omega (arith, mod-lt i row_some))

  -- the second field begins one row further on, and where rows are two apart no place is in both
  pub places_apart : (screen r).interlaced ≡ true → (increment_code r.control ≡ 0 → ⊥) → (i j : ℕ) → field_place r false i ≡ field_place r true j → ⊥
  places_apart n code i j e =
      let laced : interlaced r.control ≡ true = sym (format_is r) ∙ n in
      let two : row_step r.control ≡ 2 = simp (laced, ne_eqb (increment_code r.control) 0 code) in
      let one : row_number r (first_address r true) ≡ row_number r (first_address r false) + 1 = rw (divisor_interlaced r.control laced, add-zero) (add-div_right r.top (offset_positive r.control)) in
      omega (arith, row_of false i, row_of true j, ap (λ (k : ℕ). k / P) e, one, two, ap (λ (k : ℕ). i / P * k) two, ap (λ (k : ℕ). j / P * k) two)

  -- with one field each place is one after the other
  pub place_plain : (screen r).interlaced ≡ false → (i : ℕ) → field_place r false i ≡ first_place r + i
  unfolding field_place
  place_plain n i =
      let plain : interlaced r.control ≡ false = sym (format_is r) ∙ n in
      let one : row_step r.control ≡ 1 = simp plain in
      rw (one, add-zero) (omega (arith, div-add-mod' i P))
