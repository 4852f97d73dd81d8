-- What `any` over a range answers, as a test over numbers. Assumes nothing.
use Prim.Native.Nat.{ℕ, zero, suc, ◌+◌, ◌-◌}
use mathlib.Core.Path.{◌≡◌, refl, sym, ◌∙◌}
use mathlib.Core.Bool.{Bool, ◌||◌, or-false, or_assoc}
use native.Mathlib.Numerals.{add-one}
use native.Mathlib.Omega.{arith}
use denote.Param.Members.{Mut}
use Rattle.std.specs.Fn.{Called}
use Rattle.std.specs.List.{list_any, range_with_len}
use Rattle.std.specs.Iterator.{ChecksAny}
use Rattle.std.specs.declared.ops.Range.{Range}
use Rattle.std.proofs.iter.Yields.{nat_range_steps}
use Rattle.std.proofs.lemmas.Iterator.{YieldsList-from_range}
use Rattle.std.proofs.lemmas.Iterator.Search.{any_from_yields_List}
use Rattle.base.specs.Count.{some}

-- some number below a + n passes where one below a does, or one of the n from a on
some_listed : (test : ℕ → Bool) (a n : ℕ) → (some test a || list_any test (range_with_len a n)) ≡ some test (a + n)
unfolding some
some_listed test a zero = let e : a + 0 ≡ a = omega arith in rw e (or-false (some test a))
some_listed test a (suc n) =
    let e : a + suc n ≡ suc a + n = omega arith in
    rw (e, add-one a) (sym (or_assoc (some test a) (test a) (list_any test (range_with_len (suc a) n))) ∙ some_listed test (suc a) n)

module _ {F : Type 0} {g : Mut F (ℕ × Unit {0}) Bool} (test : ℕ → Bool) (a b : ℕ) (f : F) (after : Range ℕ) (r : Bool) where
  -- `any` over a range, given that its closure computes the test, adds what is from a on to what is below a
  pub any_from : ChecksAny nat_range_steps g (record { start = a; end = b }) f r after → ((x : ℕ) (b : Bool) (q : F) → Called g f (x, tt) b q → (q ≡ f) × (b ≡ test x)) → (some test a || r) ≡ some test (a + (b - a))
  any_from ran computes = rw (any_from_yields_List test after f r ran (YieldsList-from_range a b (b - a) refl refl) computes) (some_listed test a (b - a))

module _ {F : Type 0} {g : Mut F (ℕ × Unit {0}) Bool} (test : ℕ → Bool) (b : ℕ) (f : F) (after : Range ℕ) (r : Bool) where
  -- `any` over the numbers below b
  pub any_below : ChecksAny nat_range_steps g (record { start = 0; end = b }) f r after → ((x : ℕ) (b : Bool) (q : F) → Called g f (x, tt) b q → (q ≡ f) × (b ≡ test x)) → r ≡ some test b
  unfolding some
  any_below ran computes = let z : 0 + (b - 0) ≡ b = omega arith in rw z at (any_from test 0 b f after r ran computes)
