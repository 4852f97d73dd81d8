-- Cases of the form's functions, over plain tests. Assumes nothing.
use Prim.Native.Nat.{ℕ, zero, suc, ◌+◌, ◌-◌, ◌≤◌, ◌<◌}
use mathlib.Core.Path.{◌≡◌, sym, ◌∙◌}
use mathlib.Core.Bool.{Bool, false, ◌&&◌, ◌||◌, or-false}
use mathlib.Core.Logic.{⊎_elim}
use native.Mathlib.Omega.{arith}
use lib.Dec.{leb}
use mathlib.Core.List.{List, map}
use lib.ListN.{get_or, get_or-map}
use Rattle.base.specs.Count.{some}
use Rattle.base.proofs.Bools.{below}
use Rattle.base.proofs.Some.{some_none}
use Rattle.form.specs.Form.{grid, lefts, tops, texts, text_at, labelled, form}
use Rattle.marks.specs.declared.points.Point.{Point}

-- numbers that do not pass decide nothing
some_past : (test : ℕ → Bool) (k n : ℕ) → k ≤ n → ((j : ℕ) → k ≤ j → j < n → test j ≡ false) → some test n ≡ some test k
unfolding some
some_past test k zero h none = let e : k ≡ 0 = omega arith in rw e
some_past test k (suc n) h none =
    ⊎_elim
    (λ l. let e : k ≡ suc n = omega arith in rw e)
    (λ l. rw (none n l (omega arith)) (or-false (some test n) ∙ some_past test k n l (λ j a b. none j a (omega arith))))
    (below n k)

-- the form, of the labels from a on and below b, where there is none before a and none after b
pub form_made : (p : Point) (a b : ℕ) (drawn r : Bool) → a ≤ 29 → b ≤ 29 → ((j : ℕ) → j < a → labelled p j ≡ false) → ((j : ℕ) → b ≤ j → j < 29 → labelled p j ≡ false) → drawn ≡ grid p → (some (λ k. labelled p k) a || r) ≡ some (λ k. labelled p k) (a + (b - a)) → (drawn || r) ≡ form p
unfolding form
form_made p a b drawn r h i none past e l =
    let t : ℕ → Bool = λ k. labelled p k in
    let n = a + (b - a) in
    rw (some_past t n 29 (omega arith) (λ j k m. past j (omega arith) m), ← l, some_none t a none, e)

-- a label, of a table's row whose columns are the three lists
module _ (rows : List (ℕ × ℕ × ℕ)) (x : map (λ (r : ℕ × ℕ × ℕ). r.0) rows ≡ lefts) (y : map (λ (r : ℕ × ℕ × ℕ). r.1) rows ≡ tops) (z : map (λ (r : ℕ × ℕ × ℕ). r.2) rows ≡ texts) where
  pub label_made : (p : Point) (k : ℕ) (r : Bool) → r ≡ text_at (leb 7 k && leb k 10) (record { x = (get_or rows k (0, 0, 0)).0; y = (get_or rows k (0, 0, 0)).1 }) (get_or rows k (0, 0, 0)).2 p → r ≡ labelled p k
  unfolding labelled
  label_made p k r e =
      let d : ℕ × ℕ × ℕ = (0, 0, 0) in
      let left : (get_or rows k d).0 ≡ get_or lefts k 0 = sym (rw x at (get_or-map (λ (r : ℕ × ℕ × ℕ). r.0) rows k d)) in
      let top : (get_or rows k d).1 ≡ get_or tops k 0 = sym (rw y at (get_or-map (λ (r : ℕ × ℕ × ℕ). r.1) rows k d)) in
      let text : (get_or rows k d).2 ≡ get_or texts k 0 = sym (rw z at (get_or-map (λ (r : ℕ × ℕ × ℕ). r.2) rows k d)) in
      rw (left, top, text) at e
