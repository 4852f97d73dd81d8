-- What the proofs of `sheet` use. A loop keeps what is done, with what is left, equal to the whole; then the ways out. Assumes nothing.
use Prim.Native.Nat.{ℕ, zero, suc, ◌+◌, ◌*◌, ◌<◌}
use mathlib.Core.Path.{◌≡◌, refl, ◌∙◌, sym}
use mathlib.Core.Bool.{cond}
use mathlib.Core.List.{List}
use borrow.Author.Tests.{eq-eqb, ne_eqb}
use native.Mathlib.Numerals.{add-one}
use native.Mathlib.Omega.{arith}
use lib.Dec.{eqb, eqb-suc-zero}
use lib.ListN.{length, get_or, drop, set, replicate}
use lib.Seq.{sets, drop-cons, drop-drop}
use Rattle.sheet.specs.Encoding.{tags}
use Rattle.sheet.specs.Reader.{pair, field_refusal, refusal_from, values_from, read_sheet}
use Rattle.sheet.specs.declared.Sheet.{Sheet}
use Rattle.base.proofs.Lists.{left_from}

next_left : (sheet : List ℕ) (i : ℕ) → drop 5 (drop (5 * i) sheet) ≡ drop (5 * (i + 1)) sheet
next_left sheet i = let e : 5 * i + 5 ≡ 5 * (i + 1) = omega arith in rw (drop-drop, e)

-- a field is judged: its own refusal, or else that of the fields after it
module _ (sheet : List ℕ) (i whole : ℕ) (h : i < 14) (kept : refusal_from (drop i tags) (drop (5 * i) sheet) ≡ whole)
    (field : ℕ) (field_is : field ≡ field_refusal (get_or tags i 0) (drop (5 * i) sheet)) where
  pub judged : cond (eqb field 0) (refusal_from (drop (i + 1) tags) (drop (5 * (i + 1)) sheet)) field ≡ whole
  unfolding refusal_from
  judged = rw (field_is, ← next_left sheet i) (rw (left_from tags i) at kept)

  pub refused : (field ≡ 0 → ⊥) → field ≡ whole
  refused n = rw (ne_eqb field 0 n) at judged

  pub passed : field ≡ 0 → refusal_from (drop (i + 1) tags) (drop (5 * (i + 1)) sheet) ≡ whole
  passed z = rw z at judged

-- nothing is due any more
pub judged_all : (sheet : List ℕ) (i whole : ℕ) → i ≡ 14 → refusal_from (drop i tags) (drop (5 * i) sheet) ≡ whole → cond (eqb (length (drop 70 sheet)) 0) 0 33 ≡ whole
unfolding refusal_from
judged_all sheet i whole e kept = rw e at kept

-- a value is stored
pub valued : (sheet values whole : List ℕ) (i : ℕ) → i < 14 → sets values i (values_from (drop i tags) (drop (5 * i) sheet)) ≡ whole → sets (set values i (pair (drop (5 * i) sheet) 3)) (i + 1) (values_from (drop (i + 1) tags) (drop (5 * (i + 1)) sheet)) ≡ whole
unfolding values_from
valued sheet values whole i h kept = rw (← next_left sheet i, add-one i) (rw (drop-cons tags i 0 h) at kept)

-- a good sheet, and a refused one
pub good : (sheet values : List ℕ) (refusal : ℕ) → refusal ≡ refusal_from tags sheet → refusal ≡ 0 → values ≡ values_from tags sheet → ◌≡◌ {A = Sheet} (record { refusal = refusal; values = values }) (read_sheet sheet)
good sheet values refusal e z w = rw (eq-eqb (refusal_from tags sheet) 0 (sym e ∙ z), w, e)

pub bad : (sheet : List ℕ) (refusal : ℕ) → refusal ≡ refusal_from tags sheet → (refusal ≡ 0 → ⊥) → ◌≡◌ {A = Sheet} (record { refusal = refusal; values = replicate 14 0 }) (read_sheet sheet)
bad sheet refusal e n = rw (ne_eqb (refusal_from tags sheet) 0 (λ z. n (e ∙ z)), e)
