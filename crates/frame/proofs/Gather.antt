-- What ticks give, from any tick on: the ticks after n and then k are n + k, and what they give is joined. Assumes nothing.
use Prim.Native.Nat.{ℕ, zero, suc, ◌+◌, ◌<◌}
use mathlib.Core.Bool.{Bool, true, false, cond, ◌||◌, or_assoc, or-false}
use mathlib.Core.List.{List, [], ◌++◌, append-nil, append_assoc}
use mathlib.Core.Path.{◌≡◌, refl, sym, ap, ◌∙◌}
use native.Mathlib.Nat.{add-zero, add-suc, one-mul}
use native.Mathlib.Omega.{arith}
use Rattle.base.specs.Count.{count, some}
use Rattle.registers.specs.declared.Registers.{Registers}
use Rattle.generator.specs.Tick.{tick_of, after}
use Rattle.generator.specs.declared.Generator.{Generator}
use Rattle.generator.specs.Rows.{screen}
use Rattle.units.specs.Parameters.{field_ticks}
use Rattle.screen.specs.Totals.{frame_ticks}
use Rattle.frame.specs.Gather.{gathered}
use Rattle.frame.specs.Frame.{in_fields, refused_within}
use lib.Dec.{eqb}

-- n ticks and k more
pub after_add : (r : Registers) (m : List ℕ) (g : Generator) (n k : ℕ) → after r m g (n + k) ≡ after r m (after r m g n) k
unfolding after
after_add r m g n zero = ap (after r m g) (add-zero n)
after_add r m g n (suc k) = ap (after r m g) (add-suc n k) ∙ ap (λ (x : Generator). (tick_of r m x).next) (after_add r m g n k)

gathered_add : {A : Type 0} (test : ℕ → Bool) (part : ℕ → List A) (n k : ℕ) → gathered test part (n + k) ≡ gathered test part n ++ gathered (λ i. test (n + i)) (λ i. part (n + i)) k
unfolding gathered
gathered_add {A = A} test part n zero = rw add-zero (sym (append-nil (gathered test part n)))
gathered_add {A = A} test part n (suc k) = rw (add-suc, gathered_add test part n k) (go (test (n + k)) (gathered test part n) (gathered (λ i. test (n + i)) (λ i. part (n + i)) k) (part (n + k)))
  where
    go : (t : Bool) (a b c : List A) → cond t ((a ++ b) ++ c) (a ++ b) ≡ a ++ cond t (b ++ c) b
    go true a b c = append_assoc a b c
    go false a b c = refl

pub gathered_same : {A : Type 0} (t u : ℕ → Bool) (a b : ℕ → List A) (n : ℕ) → ((k : ℕ) → k < n → t k ≡ u k) → ((k : ℕ) → a k ≡ b k) → gathered t a n ≡ gathered u b n
unfolding gathered
gathered_same t u a b zero p q = refl
gathered_same t u a b (suc n) p q = rw (p n (omega arith), q n, gathered_same t u a b n (λ k l. p k (omega arith)) q)

some_add : (test : ℕ → Bool) (n k : ℕ) → some test (n + k) ≡ (some test n || some (λ i. test (n + i)) k)
unfolding some
some_add test n zero = rw add-zero (sym (or-false (some test n)))
some_add test n (suc k) = rw (add-suc, some_add test n k, or_assoc)

count_add : (test : ℕ → Bool) (n k : ℕ) → count test (n + k) ≡ count test n + count (λ i. test (n + i)) k
unfolding count
count_add test n zero = rw add-zero (sym (add-zero (count test n)))
count_add test n (suc k) = rw (add-suc, count_add test n k) (go (test (n + k)) (count test n) (count (λ i. test (n + i)) k))
  where
    go : (t : Bool) (a b : ℕ) → cond t (a + b + 1) (a + b) ≡ a + cond t (b + 1) b
    go true a b = omega arith
    go false a b = refl

some_like : (t u : ℕ → Bool) → ((k : ℕ) → t k ≡ u k) → (n : ℕ) → some t n ≡ some u n
unfolding some
some_like t u p zero = refl
some_like t u p (suc n) = rw (p n, some_like t u p n)

pub count_like : (t u : ℕ → Bool) → ((k : ℕ) → t k ≡ u k) → (n : ℕ) → count t n ≡ count u n
unfolding count
count_like t u p zero = refl
count_like t u p (suc n) = rw (p n, count_like t u p n)

-- the same of ticks, by the generator before each: what they give, how many pass a test, whether one is refused
module _ (r : Registers) (m : List ℕ) (g : Generator) (n k : ℕ) where
  pub gathered_on : {A : Type 0} (test : Generator → Bool) (part : Generator → List A) →
      gathered (λ i. test (after r m g i)) (λ i. part (after r m g i)) (n + k)
      ≡ gathered (λ i. test (after r m g i)) (λ i. part (after r m g i)) n ++ gathered (λ i. test (after r m (after r m g n) i)) (λ i. part (after r m (after r m g n) i)) k
  gathered_on {A = A} test part =
      gathered_add (λ i. test (after r m g i)) (λ i. part (after r m g i)) n k
      ∙ ap (λ (x : List A). gathered (λ i. test (after r m g i)) (λ i. part (after r m g i)) n ++ x) (gathered_same _ _ _ _ k (λ i l. ap test (after_add r m g n i)) (λ i. ap part (after_add r m g n i)))

  pub count_on : (test : Generator → Bool) → count (λ i. test (after r m g i)) (n + k) ≡ count (λ i. test (after r m g i)) n + count (λ i. test (after r m (after r m g n) i)) k
  count_on test =
      count_add (λ i. test (after r m g i)) n k
      ∙ ap (λ (x : ℕ). count (λ i. test (after r m g i)) n + x) (count_like _ _ (λ i. ap test (after_add r m g n i)) k)

  pub refused_on : refused_within r m g (n + k) ≡ (refused_within r m g n || refused_within r m (after r m g n) k)
  unfolding refused_within
  refused_on =
      some_add (λ i. eqb (tick_of r m (after r m g i)).refusal 20) n k
      ∙ ap (λ (x : Bool). refused_within r m g n || x) (some_like _ _ (λ i. ap (λ (x : Generator). eqb (tick_of r m x).refusal 20) (after_add r m g n i)) k)

-- a frame's ticks, by its fields
module _ (r : Registers) where
  pub ticks_one : (screen r).interlaced ≡ false → frame_ticks (screen r) ≡ field_ticks (screen r)
  ticks_one n = simp n (one-mul (field_ticks (screen r)))

  pub ticks_two : (screen r).interlaced ≡ true → frame_ticks (screen r) ≡ field_ticks (screen r) + field_ticks (screen r)
  ticks_two n = simp n (omega arith)

-- one field's, or both
pub in_fields_one : {A : Type 0} (r : Registers) (list : Bool → List A) → (screen r).interlaced ≡ false → in_fields r list ≡ list false
in_fields_one r list n = ap (λ (x : Bool). list false ++ cond x (list true) []) n ∙ append-nil (list false)

pub in_fields_two : {A : Type 0} (r : Registers) (list : Bool → List A) → (screen r).interlaced ≡ true → in_fields r list ≡ list false ++ list true
in_fields_two r list n = ap (λ (x : Bool). list false ++ cond x (list true) []) n

pub in_fields_same : {A : Type 0} (r : Registers) (a b : Bool → List A) → a false ≡ b false → ((screen r).interlaced ≡ true → a true ≡ b true) → in_fields r a ≡ in_fields r b
in_fields_same r a b one two = go (screen r).interlaced refl
  where
    go : (x : Bool) → (screen r).interlaced ≡ x → in_fields r a ≡ in_fields r b
    go false n = in_fields_one r a n ∙ one ∙ sym (in_fields_one r b n)
    go true n = in_fields_two r a n ∙ rw (one, two n) (sym (in_fields_two r b n))

-- WHAT A FRAME'S TICKS GIVE, from what each field's give
pub by_fields : {A : Type 0} (r : Registers) (m : List ℕ) (g : Generator) (test : Generator → Bool) (part : Generator → List A) (list : Bool → List A) →
    gathered (λ i. test (after r m g i)) (λ i. part (after r m g i)) (field_ticks (screen r)) ≡ list false →
    ((screen r).interlaced ≡ true → gathered (λ i. test (after r m (after r m g (field_ticks (screen r))) i)) (λ i. part (after r m (after r m g (field_ticks (screen r))) i)) (field_ticks (screen r)) ≡ list true) →
    gathered (λ i. test (after r m g i)) (λ i. part (after r m g i)) (frame_ticks (screen r)) ≡ in_fields r list
by_fields {A = A} r m g test part list one two = go (screen r).interlaced refl
  where
    go : (x : Bool) → (screen r).interlaced ≡ x → gathered (λ i. test (after r m g i)) (λ i. part (after r m g i)) (frame_ticks (screen r)) ≡ in_fields r list
    go false n = rw (ticks_one r n) (one ∙ sym (in_fields_one r list n))
    go true n = rw (ticks_two r n) (gathered_on r m g (field_ticks (screen r)) (field_ticks (screen r)) test part ∙ rw (one, two n) (sym (in_fields_two r list n)))
