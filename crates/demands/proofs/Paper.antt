-- DEMAND 1 holds of the calls without a machine. Assumes nothing.
use Prim.Native.Nat.{ℕ, ◌+◌, ◌*◌, ◌-◌, ◌^◌}
use mathlib.Core.Bool.{Bool, true, false, not, cond, ◌&&◌, ◌||◌}
use mathlib.Core.List.{List, [], ◌∷◌}
use mathlib.Core.Path.{◌≡◌, refl, sym, ap, ◌∙◌}
use native.Mathlib.Omega.{arith}
use borrow.Author.Tests.{ne_eqb, lt-ltb, le-ltb, ltb-true, ltb-false, eqb-true}
use lib.Dec.{eqb, ltb}
use lib.ListN.{length, get_or, drop, replicate, length-drop}
use Rattle.control.specs.Control.{interlaced}
use Rattle.units.specs.Parameters.{screen_of}
use Rattle.units.specs.declared.Screen.{Screen}
use Rattle.screen.specs.Limits.{later_limit, limit_of}
use Rattle.screen.specs.Totals.{refused, totals_of}
use Rattle.sheet.specs.Encoding.{tags}
use Rattle.sheet.specs.Reader.{pair, refusal_from, read_sheet}
use Rattle.sheet.specs.Writer.{write_refusal, room_written}
use Rattle.sheet.specs.Field.{field_of}
use Rattle.vault.specs.Compare.{match, nine_long, compared}
use Rattle.registers.proofs.Cases.{zero_at}
use Rattle.demands.specs.Demand1.{first_of, sheet_order, field_order, compare_order, totals_order, Paper}

-- ---- a sheet

-- fewer than two past the first three are fewer than five
two_left : (left : List ℕ) → ltb (length (drop 3 left)) 2 ≡ ltb (length left) 5
two_left left = rw length-drop (go (ltb (length left) 5) refl)
  where
    go : (t : Bool) → ltb (length left) 5 ≡ t → ltb (length left - 3) 2 ≡ t
    go true e = lt-ltb (length left - 3) 2 (omega (arith, ltb-true (length left) 5 e))
    go false e = le-ltb (length left - 3) 2 (omega (arith, ltb-false (length left) 5 e))

-- one field's four tests, and then the rest
chain : (short tag two late : Bool) (rest : ℕ) →
    ◌≡◌ {A = ℕ} (cond (eqb (cond short 30 (cond tag 31 (cond two 32 (cond late 30 0)))) 0) rest (cond short 30 (cond tag 31 (cond two 32 (cond late 30 0)))))
    (cond short 30 (cond tag 31 (cond two 32 (cond late 30 rest))))
chain true tag two late rest = refl
chain false true two late rest = refl
chain false false true late rest = refl
chain false false false true rest = refl
chain false false false false rest = refl

unless : (t : Bool) → ◌≡◌ {A = ℕ} (cond t 0 33) (cond (not t) 33 0)
unless true = refl
unless false = refl

sheet_first : (due left : List ℕ) → refusal_from due left ≡ first_of (sheet_order due left)
unfolding refusal_from
sheet_first [] left = unless (eqb (length left) 0)
sheet_first (tag ∷ due) left =
    chain (ltb (length left) 3) (not (eqb (get_or left 0 0) tag)) (not (eqb (pair left 1) 2)) (ltb (length left) 5) (refusal_from due (drop 5 left))
    ∙ rw (two_left left, sheet_first due (drop 5 left))

sheet_zero : (sheet : List ℕ) → ((read_sheet sheet).refusal ≡ 0 → ⊥) → (read_sheet sheet).values ≡ replicate 14 0
sheet_zero sheet n = rw (ne_eqb (refusal_from tags sheet) 0 n)

room_same : (values room : List ℕ) → (write_refusal values room ≡ 0 → ⊥) → room_written values room ≡ room
room_same values room n = rw (ne_eqb (write_refusal values room) 0 n)

-- ---- one field

field_first : (sheet : List ℕ) (tag : ℕ) → (field_of sheet tag).refusal ≡ first_of (field_order sheet tag)
field_first sheet tag = go (ltb tag 0x21 || ltb 0x2E tag) refl
  where
    go : (t : Bool) → (ltb tag 0x21 || ltb 0x2E tag) ≡ t → (field_of sheet tag).refusal ≡ first_of (field_order sheet tag)
    go true e = simp e
    go false e = simp e (sheet_first tags sheet)

field_zero : (sheet : List ℕ) (tag : ℕ) → ((field_of sheet tag).refusal ≡ 0 → ⊥) → (field_of sheet tag).value ≡ 0
field_zero sheet tag n = go (ltb tag 0x21 || ltb 0x2E tag) refl
  where
    go : (t : Bool) → (ltb tag 0x21 || ltb 0x2E tag) ≡ t → (field_of sheet tag).value ≡ 0
    go true e = simp e
    go false e = simp e (rw (sheet_zero sheet (simp e at n)) (zero_at 14 (tag - 0x21)))

-- ---- two checksums

compare_first : (a b : List ℕ) → (compared a b).refusal ≡ first_of (compare_order a b)
compare_first a b = go (eqb (length a) 9) (eqb (length b) 9)
  where
    go : (x y : Bool) → ◌≡◌ {A = ℕ} (cond (x && y) 0 24) (cond (not x) 24 (cond (not y) 24 0))
    go true true = refl
    go true false = refl
    go false y = refl

compare_zero : (a b : List ℕ) → ((compared a b).refusal ≡ 0 → ⊥) → (compared a b).equal ≡ false
compare_zero a b n = go (nine_long a b) n
  where
    go : (t : Bool) → (◌≡◌ {A = ℕ} (cond t 0 24) 0 → ⊥) → (t && match a b) ≡ false
    go true n = absurd (n refl)
    go false n = refl

-- ---- a screen's totals

module _ (control : ℕ) (params : List ℕ) where
  abbrev asked : Screen
  asked = screen_of params (interlaced control)

  totals_number : (totals_of control params).refusal ≡ limit_of control asked
  unfolding totals_of
  totals_number = go (eqb (limit_of control asked) 0) refl
    where
      go : (t : Bool) → eqb (limit_of control asked) 0 ≡ t → (totals_of control params).refusal ≡ limit_of control asked
      go true e = simp e (sym (eqb-true _ 0 e))
      go false e = simp e

  totals_first : (totals_of control params).refusal ≡ first_of (totals_order control asked)
  unfolding limit_of later_limit
  totals_first = totals_number

  totals_zero : ((totals_of control params).refusal ≡ 0 → ⊥) → totals_of control params ≡ refused (totals_of control params).refusal
  unfolding totals_of
  totals_zero n = simp (ne_eqb (limit_of control asked) 0 (λ e. n (totals_number ∙ e)))

-- DEMAND 1, OF THE CALLS WITHOUT A MACHINE
pub demand_1_paper : Paper
demand_1_paper =
    record {
      sheet = sheet_first tags;
      sheet_refused = sheet_zero;
      sheet_written = λ values room. refl;
      sheet_write_refused = room_same;
      field = field_first;
      field_refused = field_zero;
      compare = compare_first;
      compare_refused = compare_zero;
      host_field = λ sheet tag. ap (λ (n : ℕ). n * 2 ^ 32 + (field_of sheet tag).value) (field_first sheet tag);
      host_compare = λ a b. ap (λ (n : ℕ). n * 2 ^ 32 + cond (compared a b).equal 1 0) (compare_first a b);
      totals = totals_first;
      totals_refused = totals_zero;
    }
