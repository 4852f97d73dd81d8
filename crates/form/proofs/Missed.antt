-- Where a label has no pixel: a computed test over the table of labels for each part of the picture. Assumes nothing.
use Prim.Native.Nat.{ℕ, ◌+◌, ◌*◌, ◌-◌, ◌/◌, ◌%◌, ◌^◌, ◌≤◌, ◌<◌}
use mathlib.Core.Path.{◌≡◌, sym, ◌∙◌}
use mathlib.Core.Bool.{Bool, true, false, cond, ◌&&◌, ◌||◌, and-false, not-eq-not, true≢false}
use mathlib.Core.List.{[], ◌∷◌}
use mathlib.Core.Logic.{⊎_elim}
use native.Mathlib.Nat.{zero-div}
use native.Mathlib.Omega.{arith}
use borrow.Author.Tests.{ltb-true, leb-true, lt-leb, le-ltb}
use lib.Dec.{T, ltb, leb, eqb, leb→le, eqb→eq}
use lib.ListN.{get_or}
use mir.Facts.{or_yes}
use Rattle.base.proofs.Bools.{both_hold}
use Rattle.base.proofs.Table.{passes, entry}
use Rattle.form.specs.Form.{texts, lefts, tops, inked, dot, scaled, text_at, labelled}
use Rattle.marks.specs.declared.points.Point.{Point}

-- a blank sign has no dot
blank : (column row : ℕ) → inked 255 column row ≡ false
unfolding inked
blank column row = rw (zero-div (2 ^ (8 * (6 - row) + (5 - column))))

-- a sign of a text ends left of a column, or is blank
abbrev sign_ended : Bool → Point → ℕ → ℕ → ℕ → Bool
sign_ended small from text left sign =
    leb (from.x + cond small 1 2 * (6 * sign + 6)) left || eqb (text / 2 ^ (8 * (4 - sign)) % 256) 255

-- and so does each of the five
abbrev ended : Bool → Point → ℕ → ℕ → Bool
ended small from text left = passes (λ sign none. sign_ended small from text left sign) 0 (0 ∷ 0 ∷ 0 ∷ 0 ∷ 0 ∷ [])

-- a text has no pixel in a part of the picture: it ends left of it, begins right of it, ends over it or begins under it
abbrev misses : Bool → Point → ℕ → ℕ → ℕ → ℕ → ℕ → Bool
misses small from text left right top bottom =
    ended small from text left || leb right from.x || leb (from.y + cond small 1 2 * 7) top || leb bottom from.y

-- pixels in dots are as many pixels
in_dots : (small : Bool) (pixels dots : ℕ) → scaled small pixels < dots → pixels < cond small 1 2 * dots
in_dots true pixels dots h = omega arith
in_dots false pixels dots h = omega arith

-- a pixel of a text lies in its box, and is a dot
module _ (small : Bool) (from p : Point) (text : ℕ) (e : text_at small from text p ≡ true) where
  abbrev column : ℕ
  column = scaled small (p.x - from.x)

  abbrev row : ℕ
  row = scaled small (p.y - from.y)

  box : (from.x ≤ p.x) × (from.y ≤ p.y) × (column < 30) × (row < 7) × (dot text column row ≡ true)
  unfolding text_at
  box =
      let a = leb from.x p.x in
      let b = leb from.y p.y in
      let h = both_hold (a && b && ltb column 30 && ltb row 7) (dot text column row) e in
      let i = both_hold (a && b && ltb column 30) (ltb row 7) h.0 in
      let j = both_hold (a && b) (ltb column 30) i.0 in
      let k = both_hold a b j.0 in
      (leb-true _ _ k.0, leb-true _ _ k.1, ltb-true _ _ j.1, ltb-true _ _ i.1, h.1)

  -- a part of the picture that the text misses does not have the pixel
  module _ (left right top bottom : ℕ) (l : left ≤ p.x) (r : p.x < right) (t : top ≤ p.y) (b : p.y < bottom) where
    missed_sign : T (ended small from text left) → ⊥
    unfolding dot
    missed_sign n =
        let sign = column / 6 in
        let at = entry (λ sign none. sign_ended small from text left sign) (0 ∷ 0 ∷ 0 ∷ 0 ∷ 0 ∷ []) n sign (omega (arith, box.2)) in
        let inside = in_dots small (p.x - from.x) (6 * sign + 6) (omega arith) in
        ⊎_elim
        (λ h. omega (arith, box.0, inside, leb→le (from.x + cond small 1 2 * (6 * sign + 6)) left h))
        (λ h. true≢false (sym box.4 ∙ rw (eqb→eq (text / 2 ^ (8 * (4 - sign)) % 256) 255 h) (blank (column % 6) row)))
        (or_yes (leb (from.x + cond small 1 2 * (6 * sign + 6)) left) (eqb (text / 2 ^ (8 * (4 - sign)) % 256) 255) at)

    missed : T (misses small from text left right top bottom) → ⊥
    missed n =
        let u = ended small from text left in
        let v = leb right from.x in
        let w = leb (from.y + cond small 1 2 * 7) top in
        ⊎_elim
        (λ g. ⊎_elim
        (λ f. ⊎_elim missed_sign (λ h. omega (arith, leb→le right from.x h, box.0)) (or_yes u v f))
        (λ h. omega (arith, leb→le (from.y + cond small 1 2 * 7) top h, in_dots small (p.y - from.y) 7 box.3, box.1))
        (or_yes (u || v) w g))
        (λ h. omega (arith, leb→le bottom from.y h, box.1))
        (or_yes (u || v || w) (leb bottom from.y) n)

-- the label k reaches a part of the picture only if it is one of some
abbrev reaches : ℕ → ℕ → ℕ → ℕ → ℕ → ℕ → ℕ → ℕ → Bool
reaches first end left right top bottom k from =
    (leb first k && ltb k end) || misses (leb 7 k && leb k 10) (record { x = from; y = get_or tops k 0 }) (get_or texts k 0) left right top bottom

-- A PART OF THE PICTURE: the labels before the first and from the end on have no pixel there
module _ (p : Point) (first end left right top bottom : ℕ) (rule : T (passes (reaches first end left right top bottom) 0 lefts)) (l : left ≤ p.x) (r : p.x < right) (t : top ≤ p.y) (b : p.y < bottom) where
  unreached : (k : ℕ) → k < 29 → (leb first k && ltb k end) ≡ false → labelled p k ≡ false
  unfolding labelled
  unreached k h out =
      let small = leb 7 k && leb k 10 in
      let from : Point = record { x = get_or lefts k 0; y = get_or tops k 0 } in
      let at = entry (reaches first end left right top bottom) lefts rule k h in
      (not-eq-not {a = text_at small from (get_or texts k 0) p} {b = false}).0
      (λ e. missed small from p (get_or texts k 0) e left right top bottom l r t b (rw out at at))

  pub part : first ≤ 29 → end ≤ 29 → ((first ≤ 29) × (end ≤ 29)) × (((k : ℕ) → k < first → labelled p k ≡ false) × ((k : ℕ) → end ≤ k → k < 29 → labelled p k ≡ false))
  part f e =
      ((f, e), (λ k h. unreached k (omega arith) (rw (lt-leb first k h)), λ k h i. unreached k i (rw (le-ltb k end h) (and-false (leb first k)))))
