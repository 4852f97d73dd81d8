-- An ear has no pixel outside its boxes. Assumes nothing.
use Prim.Native.Nat.{ℕ, zero, suc, ◌+◌, ◌*◌, ◌-◌, ◌≤◌, ◌<◌, min, max}
use mathlib.Core.Path.{◌≡◌, refl, sym, ◌∙◌}
use mathlib.Core.Bool.{Bool, true, false, cond, ◌&&◌, ◌||◌, or-false, and-false, not-eq-not, true≢false}
use mathlib.Core.List.{List}
use mathlib.Core.Logic.{◌⊎◌, ⊎_elim}
use native.Mathlib.Nat.{add-mul, mul-add, mul_comm, mul-le-mul, mul-le-mul_left}
use native.Mathlib.Omega.{arith}
use borrow.Author.Tests.{leb-true, leb-false, le-leb}
use lib.Dec.{ltb, leb, leb→le, eqb-suc-zero}
use lib.ListN.{get_or}
use Rattle.base.specs.Count.{some}
use Rattle.base.proofs.Bools.{below, both_hold, neither_holds}
use Rattle.base.proofs.Some.{some_none, some_at}
use Rattle.base.proofs.Table.{passes, entry}
use Rattle.marks.specs.Points.{apart, distance}
use Rattle.marks.specs.Marks.{mark, line, reach}
use Rattle.marks.specs.Ear.{measured, columns, point_of, key_of, last_before, covered_at, shows}
use Rattle.marks.specs.Near.{mark_ends, thickness, close, near_at, near}
use Rattle.marks.specs.declared.points.Point.{Point}
use Rattle.marks.proofs.ear.Cases.{last_below}

-- ---- tests

-- two tests that cannot both fail
either : (a b : Bool) → (a ≡ false → b ≡ false → ⊥) → (a || b) ≡ true
either true b h = refl
either false true h = refl
either false false h = absurd (h refl refl)

-- one of two tests holds
one_holds : (a b : Bool) → (a || b) ≡ true → (a ≡ true) ⊎ (b ≡ true)
one_holds true b e = ◌⊎◌.inl refl
one_holds false b e = ◌⊎◌.inr e

-- ---- marks

-- a square of at most 56 has a side of at most 7
side_small : (a b : ℕ) → a * a + b * b ≤ 56 → a ≤ 7
side_small a b h = ⊎_elim (λ l. omega arith) (λ l. absurd (omega (arith, mul-le-mul {n₁ = 8} {m₁ = 8} {n₂ = a} {m₂ = a} l l))) (below a 8)

-- a mark ends 7 pixels from its centre
mark_ends_lem : (right : Bool) (q centre : Point) → mark right q centre ≡ true → (apart q.x centre.x ≤ 7) × (apart q.y centre.y ≤ 7)
unfolding mark
mark_ends_lem true q centre e =
    let h : distance q centre ≤ 56 = leb-true _ _ (both_hold (leb 31 (distance q centre)) (leb (distance q centre) 56) e).1 in
    (side_small (apart q.x centre.x) (apart q.y centre.y) h, side_small (apart q.y centre.y) (apart q.x centre.x) (omega arith))
mark_ends_lem false q centre e =
    let across = apart q.x centre.x in
    let down = apart q.y centre.y in
    let h = both_hold (leb (apart across down) 1 && leb across 6) (leb down 6) e in
    (omega (arith, leb-true across 6 (both_hold (leb (apart across down) 1) (leb across 6) h.0).1), omega (arith, leb-true down 6 h.1))

-- ---- lines

-- what is due on a line lies between its ends' rows, and what is there within 13 rows of what is due
module _ (a b width from to row most : ℕ) (e : width ≡ a + b) (wide : 32 ≤ width) (thin : most ≤ 13 * width) (near : apart (a * to + b * from) (row * width) ≤ most) where
  there : row * width ≡ a * row + b * row
  there = rw e (mul_comm row (a + b) ∙ add-mul a b row)

  due_under : min from to ≤ row + 13
  due_under =
      ⊎_elim
      (λ h. absurd (omega (arith, there, mul-le-mul_left {m = row + 14} {n = to} a (omega arith), mul-le-mul_left {m = row + 14} {n = from} b (omega arith), mul-add a row 14, mul-add b row 14)))
      (λ h. h)
      (below (row + 13) (min from to))

  due_over : row ≤ max from to + 13
  due_over =
      ⊎_elim
      (λ h. absurd (omega (arith, there, mul-le-mul_left {m = to + 14} {n = row} a (omega arith), mul-le-mul_left {m = from + 14} {n = row} b (omega arith), mul-add a to 14, mul-add b from 14)))
      (λ h. h)
      (below (max from to + 13) row)

-- a line's reach is at most 13 times its width
reach_small : (b : Bool) (width height : ℕ) → 32 ≤ width → height ≤ 416 → cond b height width ≤ 13 * width
reach_small true width height h k = omega arith
reach_small false width height h k = omega arith

-- a frequency's column stands at least 32 pixels right of each before it
columns_apart : (j k : ℕ) → j < k → k < 11 → get_or columns j 0 + 32 ≤ get_or columns k 0
columns_apart j k h l =
    let rest = entry (λ k to. passes (λ j from. leb (from + 32) (to + 1000 * (suc j - k))) 0 columns) columns tt k l in
    let at = leb→le (get_or columns j 0 + 32) _ (entry (λ j from. leb (from + 32) (get_or columns k 0 + 1000 * (suc j - k))) columns rest j (omega arith)) in
    omega arith

-- the last frequency below k that was measured was measured
last_measured : (levels : List ℕ) (k last : ℕ) → 0 < last → last ≡ last_before levels k → measured (get_or levels (last - 1) 0) ≡ true
unfolding last_before
last_measured levels zero last l e = absurd (omega arith)
last_measured levels (suc k) last l e = go (measured (get_or levels k 0)) refl e (last_measured levels k last l)
  where
    go : (b : Bool) → measured (get_or levels k 0) ≡ b → last ≡ cond b (k + 1) (last_before levels k) → (last ≡ last_before levels k → measured (get_or levels (last - 1) 0) ≡ true) → measured (get_or levels (last - 1) 0) ≡ true
    go true m h back = let same : last - 1 ≡ k = omega arith in rw same m
    go false m h back = back h

-- ---- boxes

-- of four pixels from p on, one
module _ (p q : Point) (row : q.y ≡ p.y) (left : p.x ≤ q.x) (right : q.x ≤ p.x + 3) where
  close_holds : (from to : Point) → from.x ≤ q.x + mark_ends → q.x ≤ to.x + mark_ends → min from.y to.y ≤ q.y + thickness → q.y ≤ max from.y to.y + thickness → close p from to ≡ true
  unfolding close
  close_holds from to a b c d =
      rw (
        le-leb (from.x - (mark_ends + 3)) p.x (omega arith),
        le-leb (p.x - mark_ends) to.x (omega arith),
        either (leb (from.y - thickness) p.y) (leb (to.y - thickness) p.y) (λ s t. omega (arith, leb-false (from.y - thickness) p.y s, leb-false (to.y - thickness) p.y t)),
        either (leb (p.y - thickness) from.y) (leb (p.y - thickness) to.y) (λ s t. omega (arith, leb-false (p.y - thickness) from.y s, leb-false (p.y - thickness) to.y t)),
      )

  -- a pixel of a line lies in the box of its ends
  line_close : (from to : Point) → from.x + 32 ≤ to.x → apart from.y to.y ≤ 416 → line q from to ≡ true → close p from to ≡ true
  unfolding line
  line_close from to wide steep e =
      let a = leb from.x q.x in
      let b = leb q.x to.x in
      let width = to.x - from.x in
      let due = (q.x - from.x) * to.y + (to.x - q.x) * from.y in
      let n = leb (apart due (q.y * width)) (reach from to) in
      let h = both_hold (a && b) n (both_hold (a && b && n) (ltb 56 (distance q from) && ltb 56 (distance q to)) e).0 in
      let i = leb-true from.x q.x (both_hold a b h.0).0 in
      let j = leb-true q.x to.x (both_hold a b h.0).1 in
      let near = leb-true (apart due (q.y * width)) (reach from to) h.1 in
      let whole : width ≡ (q.x - from.x) + (to.x - q.x) = omega arith in
      let thin : reach from to ≤ 13 * width = reach_small (ltb width (apart from.y to.y)) width (apart from.y to.y) (omega arith) steep in
      close_holds from to (omega arith) (omega arith)
      (due_under (q.x - from.x) (to.x - q.x) width from.y to.y q.y (reach from to) whole (omega arith) thin near)
      (due_over (q.x - from.x) (to.x - q.x) width from.y to.y q.y (reach from to) whole (omega arith) thin near)

  -- and one of a mark in a box that has its centre
  mark_close : (side : Bool) (from to centre : Point) → from.x ≤ centre.x → centre.x ≤ to.x → min from.y to.y ≤ centre.y → centre.y ≤ max from.y to.y → mark side q centre ≡ true → close p from to ≡ true
  mark_close side from to centre a b c d e =
      let h = mark_ends_lem side q centre e in
      close_holds from to (omega arith) (omega arith) (omega arith) (omega arith)

  -- a pixel of frequency k's mark or line lies in their box
  covered_near : (side : Bool) (levels : List ℕ) (k last : ℕ) → k < 11 → last ≡ last_before levels k → covered_at side levels q last k ≡ true → near_at levels p last k ≡ true
  unfolding covered_at near_at
  covered_near side levels k zero h l e =
      let to = point_of levels k in
      let m = both_hold (measured (get_or levels k 0)) (mark side q to || false) e in
      rw m.0 (mark_close side to to to (omega arith) (omega arith) (omega arith) (omega arith) (sym (or-false (mark side q to)) ∙ m.1))
  covered_near side levels k (suc j) h l e =
      let from = point_of levels (suc j - 1) in
      let to = point_of levels k in
      let m = both_hold (measured (get_or levels k 0)) (mark side q to || (ltb 0 (suc j) && line q from to)) e in
      let apart = columns_apart (suc j - 1) k (omega (arith, last_below levels k)) h in
      let a = leb-true (get_or levels (suc j - 1) 0) 26 (last_measured levels k (suc j) (omega arith) l) in
      let b = leb-true (get_or levels k 0) 26 m.0 in
      rw (m.0, eqb-suc-zero j)
      (⊎_elim (mark_close side from to to (omega arith) (omega arith) (omega arith) (omega arith)) (λ t. line_close from to (omega arith) (omega arith) (both_hold (ltb 0 (suc j)) (line q from to) t).1) (one_holds (mark side q to) (ltb 0 (suc j) && line q from to) m.1))

  -- far from a mark and its line neither covers a pixel
  pub far_uncovered : (side : Bool) (levels : List ℕ) (k last : ℕ) → k < 11 → last ≡ last_before levels k → near_at levels p last k ≡ false → covered_at side levels q last k ≡ false
  far_uncovered side levels k last h l e = (not-eq-not {a = covered_at side levels q last k} {b = false}).0 (λ t. true≢false (sym (covered_near side levels k last h l t) ∙ e))

  -- the keys lie in the box of both
  key_close : (side : Bool) → mark side q (key_of side) ≡ true → close p (key_of true) (key_of false) ≡ true
  key_close true e = mark_close true (key_of true) (key_of false) (key_of true) (omega arith) (omega arith) (omega arith) (omega arith) e
  key_close false e = mark_close false (key_of true) (key_of false) (key_of false) (omega arith) (omega arith) (omega arith) (omega arith) e

  -- FAR FROM AN EAR, in none of its boxes, it shows nothing
  pub far_hidden : (side : Bool) (levels : List ℕ) → near levels p ≡ false → shows side levels q ≡ false
  unfolding near shows
  far_hidden side levels e =
      let test : ℕ → Bool = λ k. near_at levels p (last_before levels k) k in
      let n = neither_holds (some test 11) (close p (key_of true) (key_of false)) e in
      let none : (k : ℕ) → k < 11 → covered_at side levels q (last_before levels k) k ≡ false = λ k h. far_uncovered side levels k (last_before levels k) h refl ((not-eq-not {a = test k} {b = false}).0 (λ t. true≢false (sym (some_at test 11 k h t) ∙ n.0))) in
      rw (some_none (λ k. covered_at side levels q (last_before levels k) k) 11 none, (not-eq-not {a = mark side q (key_of side)} {b = false}).0 (λ t. true≢false (sym (key_close side t) ∙ n.1)))
      (and-false (ltb 0 (last_before levels 11)))
