-- Cases of an ear's functions, over plain numbers and tests. Assumes nothing.
use Prim.Native.Nat.{ℕ, zero, suc, ◌+◌, ◌*◌, ◌-◌, ◌≤◌, ◌<◌}
use mathlib.Core.Path.{◌≡◌, refl, ap, ◌∙◌}
use mathlib.Core.Bool.{Bool, true, false, cond, ◌&&◌, ◌||◌}
use mathlib.Core.List.{List}
use mathlib.Core.Logic.{⊎_elim}
use native.Mathlib.Omega.{arith}
use lib.Dec.{ltb, eqb}
use Rattle.std.specs.Prelude.{Option, Some, None, MatchOption}
use Rattle.std.specs.Option.{is_some, unwrap_or}
use borrow.Author.Tests.{lt-ltb, ne_eqb}
use Rattle.base.proofs.Bools.{below}
use lib.ListN.{get_or}
use Rattle.base.specs.Count.{some}
use Rattle.marks.specs.Marks.{mark, line}
use Rattle.marks.specs.Ear.{measured, columns, point_of, key_of, place_after, last_before, covered_at, shows}
use Rattle.marks.specs.Near.{close, near_at, near}
use Rattle.marks.specs.declared.points.Point.{Point}

-- a level's place, of its column and its number
pub point_made : (levels : List ℕ) (k level : ℕ) → level ≡ get_or levels k 0 → ◌≡◌ {A = Point} (record { x = get_or columns k 0; y = 36 + 16 * level }) (point_of levels k)
point_made levels k level e = rw e

-- the frequency measured last below k, of the last one that passes the test
module _ (levels : List ℕ) where
  none_before : (k : ℕ) → ((j : ℕ) → j < k → measured (get_or levels j 0) ≡ false) → 0 ≡ last_before levels k
  unfolding last_before
  none_before zero h = refl
  none_before (suc k) h = rw (h k (omega arith)) (none_before k (λ j l. h j (omega arith)))

  one_before : (i k : ℕ) → i < k → measured (get_or levels i 0) ≡ true → ((j : ℕ) → i < j → j < k → measured (get_or levels j 0) ≡ false) → i + 1 ≡ last_before levels k
  unfolding last_before
  one_before i zero l m h = absurd (omega arith)
  one_before i (suc k) l m h =
      ⊎_elim
      (λ b. rw (h k b (omega arith)) (one_before i k b m (λ j d e. h j d (omega arith))))
      (λ b. let e : i ≡ k = omega arith in rw (← e, m))
      (below i k)

  pub last_found : (k : ℕ) (r : Option ℕ) → MatchOption r ((j : ℕ) → j < k → measured (get_or levels j 0) ≡ false) (λ i. (i < k) × (measured (get_or levels i 0) ≡ true) × ((j : ℕ) → i < j → j < k → measured (get_or levels j 0) ≡ false)) → place_after r ≡ last_before levels k
  last_found k None h = none_before k h
  last_found k (Some i) h = one_before i k h.0 h.1 h.2

-- a frequency's mark, or the line to it
module _ (levels : List ℕ) (p : Point) (before : Option ℕ) (k : ℕ) (l : place_after before ≡ last_before levels k) where
  joined_made : (r : Option ℕ) (to : Point) (joined : Bool) → to ≡ point_of levels k → MatchOption r (joined ≡ false) (λ i. joined ≡ line p (point_of levels i) to) → joined ≡ (ltb 0 (place_after r) && line p (point_of levels (place_after r - 1)) (point_of levels k))
  joined_made None to joined e h = h
  joined_made (Some i) to joined e h =
      let same : i + 1 - 1 ≡ i = omega arith in
      rw (lt-ltb 0 (i + 1) (omega arith), same) (h ∙ ap (line p (point_of levels i)) e)

  pub covered_made : (right : Bool) (to : Point) (marked joined known : Bool) → to ≡ point_of levels k → marked ≡ mark right p to → MatchOption before (joined ≡ false) (λ i. joined ≡ line p (point_of levels i) to) → known ≡ measured (get_or levels k 0) → (known && (marked || joined)) ≡ covered_at right levels p (last_before levels k) k
  unfolding covered_at
  covered_made right to marked joined known e m h n = rw (n, m, joined_made before to joined e h, l, e)

  -- where the box of a frequency begins
  begun : (r : Option ℕ) → unwrap_or r k ≡ cond (eqb (place_after r) 0) k (place_after r - 1)
  begun None = refl
  begun (Some i) = rw (ne_eqb (i + 1) 0 (λ e. omega arith)) (omega arith)

  pub near_made : (start : ℕ) (from to : Point) (boxed known : Bool) → start ≡ unwrap_or before k → from ≡ point_of levels start → to ≡ point_of levels k → known ≡ measured (get_or levels k 0) → boxed ≡ close p from to → (known && boxed) ≡ near_at levels p (last_before levels k) k
  unfolding near_at
  near_made start from to boxed known s f t n b = rw (n, b, f, t, s, begun before, l)

-- an ear, of its frequencies and its key
some_last : (r : Option ℕ) → is_some r ≡ ltb 0 (place_after r)
some_last None = refl
some_last (Some i) = rw (lt-ltb 0 (i + 1) (omega arith))

pub ear_whole : (right : Bool) (levels : List ℕ) (p : Point) (last : Option ℕ) (now key known : Bool) → now ≡ some (λ k. covered_at right levels p (last_before levels k) k) 11 → place_after last ≡ last_before levels 11 → known ≡ is_some last → key ≡ mark right p (key_of right) → (now || (known && key)) ≡ shows right levels p
unfolding shows
ear_whole right levels p last now key known e l m k = rw (e, m, some_last last, l, k)

pub near_whole : (levels : List ℕ) (p : Point) (now key : Bool) → now ≡ some (λ k. near_at levels p (last_before levels k) k) 11 → key ≡ close p (key_of true) (key_of false) → (now || key) ≡ near levels p
unfolding near
near_whole levels p now key e m = rw (e, m)

-- the last frequency measured below k lies below k
pub last_below : (levels : List ℕ) (k : ℕ) → last_before levels k ≤ k
unfolding last_before
last_below levels zero = omega arith
last_below levels (suc k) = go (measured (get_or levels k 0)) (last_before levels k) (last_below levels k)
  where
    go : (b : Bool) (last : ℕ) → last ≤ k → cond b (k + 1) last ≤ suc k
    go true last h = omega arith
    go false last h = omega arith
