-- A channel's sum is the total of its bytes, modulo 2^24; and what a change of the list does to that total. One channel at a time, by its number.
-- Assumes nothing.
use Prim.Native.Nat.{ℕ, zero, suc, ◌+◌, ◌-◌, ◌*◌, ◌/◌, ◌%◌, ◌^◌, ◌≤◌, ◌<◌}
use mathlib.Core.Bool.{Bool, true, false, cond}
use mathlib.Core.List.{List, [], ◌∷◌}
use mathlib.Core.Logic.{◌⊎◌, inl, inr}
use mathlib.Core.Path.{◌≡◌, refl, sym, ap, subst, ◌∙◌}
use native.Mathlib.Nat.{zero-add}
use native.Mathlib.Omega.{arith}
use borrow.Author.Tests.{eqb-true, eqb-false, eq-eqb, ne_eqb}
use lib.Dec.{eqb}
use lib.ListN.{length, get_or, set, replicate, length-set, length-replicate, get_or-replicate}
use lib.Pow.{pow_mono}
use lib.Seq.{get_or-set_same, get_or-set_other}
use Rattle.base.specs.Sum.{rolled}
use Rattle.base.proofs.Bools.{below}
use Rattle.base.proofs.Lists.{none_there}
use Rattle.pixel.specs.Sums.{none, added, summed}
use Rattle.pixel.specs.declared.Sums.{Sums}
use Rattle.checksums.specs.Apart.{OneApart, ChangedAbout, byte_in, total, risen, Rises, AllRise, wrong, stuck_at, Stuck}

-- a channel's sum
abbrev pub sum_in : ℕ → Sums → ℕ
sum_in channel s = get_or (s.red ∷ s.green ∷ s.blue ∷ []) channel 0

byte_small : (channel colour : ℕ) → byte_in channel colour < 256
byte_small zero colour = omega arith
byte_small (suc zero) colour = omega arith
byte_small (suc (suc zero)) colour = omega arith
byte_small (suc (suc (suc k))) colour = omega arith

sum_added : (channel : ℕ) (s : Sums) (x : ℕ) → sum_in channel (added s x) ≡ rolled (sum_in channel s) (byte_in channel x)
sum_added zero s x = refl
sum_added (suc zero) s x = refl
sum_added (suc (suc zero)) s x = refl
sum_added (suc (suc (suc k))) s x = refl

rolled_on : (a b c : ℕ) → (rolled a b + c) % 2 ^ 24 ≡ (a + (b + c)) % 2 ^ 24
rolled_on a b c = omega arith

sum_total : (channel : ℕ) (s : Sums) (xs : List ℕ) → sum_in channel s < 2 ^ 24 → sum_in channel (summed s xs) ≡ (sum_in channel s + total channel xs) % 2 ^ 24
unfolding summed total
sum_total channel s [] p = omega arith
sum_total channel s (x ∷ xs) p =
    sum_total channel (added s x) xs (rw (sum_added channel s x) (omega arith))
    ∙ ap (λ (k : ℕ). (k + total channel xs) % 2 ^ 24) (sum_added channel s x)
    ∙ rolled_on (sum_in channel s) (byte_in channel x) (total channel xs)

nothing_in : (channel : ℕ) → sum_in channel none ≡ 0
nothing_in zero = refl
nothing_in (suc zero) = refl
nothing_in (suc (suc zero)) = refl
nothing_in (suc (suc (suc k))) = refl

pub sum_is : (channel : ℕ) (xs : List ℕ) → sum_in channel (summed none xs) ≡ total channel xs % 2 ^ 24
sum_is channel xs = sum_total channel none xs (omega (arith, nothing_in channel)) ∙ ap (λ (k : ℕ). (k + total channel xs) % 2 ^ 24) (nothing_in channel) ∙ rw zero-add

-- sums that agree channel by channel are one
same_sums : (s t : Sums) → ((channel : ℕ) → sum_in channel s ≡ sum_in channel t) → s ≡ t
same_sums s t f =
    ap (λ (k : ℕ). record { red = k; green = s.green; blue = s.blue }) (f 0)
    ∙ ap (λ (k : ℕ). record { red = t.red; green = k; blue = s.blue }) (f 1)
    ∙ ap (λ (k : ℕ). record { red = t.red; green = t.green; blue = k }) (f 2)

pub sums_from : (xs ys : List ℕ) → ((channel : ℕ) → total channel xs ≡ total channel ys) → summed none xs ≡ summed none ys
sums_from xs ys e = same_sums (summed none xs) (summed none ys) (λ k. sum_is k xs ∙ ap (λ (n : ℕ). n % 2 ^ 24) (e k) ∙ sym (sum_is k ys))

-- the sums of a list are its totals
pub sums_are : (xs : List ℕ) → summed none xs ≡ record { red = total 0 xs % 2 ^ 24; green = total 1 xs % 2 ^ 24; blue = total 2 xs % 2 ^ 24 }
sums_are xs = same_sums (summed none xs) (record { red = total 0 xs % 2 ^ 24; green = total 1 xs % 2 ^ 24; blue = total 2 xs % 2 ^ 24 }) at
  where
    at : (channel : ℕ) → sum_in channel (summed none xs) ≡ sum_in channel (record { red = total 0 xs % 2 ^ 24; green = total 1 xs % 2 ^ 24; blue = total 2 xs % 2 ^ 24 })
    at zero = sum_is 0 xs
    at (suc zero) = sum_is 1 xs
    at (suc (suc zero)) = sum_is 2 xs
    at (suc (suc (suc k))) = refl

module _ (channel : ℕ) where
  -- lists that agree place by place have one total
  same_total : (xs ys : List ℕ) → length xs ≡ length ys → ((i : ℕ) → get_or xs i 0 ≡ get_or ys i 0) → total channel xs ≡ total channel ys
  unfolding total
  same_total [] [] n e = refl
  same_total [] (y ∷ ys) n e = absurd (omega arith)
  same_total (x ∷ xs) [] n e = absurd (omega arith)
  same_total (x ∷ xs) (y ∷ ys) n e =
      let head : byte_in channel x ≡ byte_in channel y = ap (byte_in channel) (e 0) in
      omega (arith, head, same_total xs ys (omega arith) (λ i. e (suc i)))

  -- and where they do but at one, the totals are apart by what stands there
  one_total : (xs ys : List ℕ) (place : ℕ) → length xs ≡ length ys → ((i : ℕ) → (i ≡ place → ⊥) → get_or xs i 0 ≡ get_or ys i 0) →
      total channel xs + byte_in channel (get_or ys place 0) ≡ total channel ys + byte_in channel (get_or xs place 0)
  unfolding total
  one_total [] [] place n e = refl
  one_total [] (y ∷ ys) place n e = absurd (omega arith)
  one_total (x ∷ xs) [] place n e = absurd (omega arith)
  one_total (x ∷ xs) (y ∷ ys) zero n e = omega (arith, same_total xs ys (omega arith) (λ i. e (suc i) (λ z. omega (arith, z))))
  one_total (x ∷ xs) (y ∷ ys) (suc place) n e =
      let rest = one_total xs ys place (omega arith) (λ i f. e (suc i) (λ z. f (omega (arith, z)))) in
      let head : byte_in channel x ≡ byte_in channel y = ap (byte_in channel) (e 0 (λ z. omega (arith, z))) in
      omega (arith, rest, head)

  module _ (xs ys : List ℕ) (c : ChangedAbout xs ys) where
    -- one of the two changed first
    abbrev zs : List ℕ
    zs = set xs c.one (get_or xs c.other 0)

    at_one : get_or zs c.one 0 ≡ get_or xs c.other 0
    at_one = get_or-set_same xs c.one (get_or xs c.other 0) 0 c.one_in

    at_other : get_or zs c.other 0 ≡ get_or xs c.other 0
    at_other = go (eqb c.other c.one) refl
      where
        go : (t : Bool) → eqb c.other c.one ≡ t → get_or zs c.other 0 ≡ get_or xs c.other 0
        go true e = ap (λ (k : ℕ). get_or zs k 0) (eqb-true _ _ e) ∙ at_one
        go false e = get_or-set_other xs c.one c.other _ 0 (eqb-false _ _ e)

    elsewhere : (i : ℕ) → (i ≡ c.other → ⊥) → get_or zs i 0 ≡ get_or ys i 0
    elsewhere i f = go (eqb i c.one) refl
      where
        go : (t : Bool) → eqb i c.one ≡ t → get_or zs i 0 ≡ get_or ys i 0
        go true e = ap (λ (k : ℕ). get_or zs k 0) (eqb-true _ _ e) ∙ at_one ∙ sym c.one_gets ∙ ap (λ (k : ℕ). get_or ys k 0) (sym (eqb-true _ _ e))
        go false e = get_or-set_other xs c.one i _ 0 (eqb-false _ _ e) ∙ c.alike i (eqb-false _ _ e) f

    -- two that change about leave the total as it was
    pub changed_total : total channel xs ≡ total channel ys
    changed_total =
        let first = one_total xs zs c.one (sym (length-set xs c.one _)) (λ i f. sym (get_or-set_other xs c.one i _ 0 f)) in
        let then = one_total zs ys c.other (length-set xs c.one _ ∙ c.as_many) elsewhere in
        omega (arith, first, then, ap (byte_in channel) at_one, ap (byte_in channel) at_other, ap (byte_in channel) c.other_gets)

  -- one pixel's byte can't be lost: below 256, it is seen modulo 2^24
  pub one_byte : (xs ys : List ℕ) (o : OneApart xs ys) → total channel xs % 2 ^ 24 ≡ total channel ys % 2 ^ 24 → byte_in channel (get_or xs o.place 0) ≡ byte_in channel (get_or ys o.place 0)
  one_byte xs ys o e =
      apart (total channel xs) (total channel ys) (byte_in channel (get_or xs o.place 0)) (byte_in channel (get_or ys o.place 0))
      (byte_small channel _) (byte_small channel _) (one_total xs ys o.place o.as_many o.alike) e
    where
      apart : (s t a b : ℕ) → a < 256 → b < 256 → s + b ≡ t + a → s % 2 ^ 24 ≡ t % 2 ^ 24 → a ≡ b
      apart s t a b p q f g = omega arith

  -- a total rises by what its bytes do
  risen_total : (xs ys : List ℕ) → length xs ≡ length ys → ((i : ℕ) → byte_in channel (get_or xs i 0) ≤ byte_in channel (get_or ys i 0)) → total channel xs + risen channel xs ys ≡ total channel ys
  unfolding total
  risen_total [] [] n u = refl
  risen_total [] (y ∷ ys) n u = absurd (omega arith)
  risen_total (x ∷ xs) [] n u = absurd (omega arith)
  risen_total (x ∷ xs) (y ∷ ys) n u = omega (arith, u 0, risen_total xs ys (omega arith) (λ i. u (suc i)))

  pub rises_apart : (xs ys : List ℕ) → Rises channel xs ys → total channel xs % 2 ^ 24 ≡ total channel ys % 2 ^ 24 → ⊥
  rises_apart xs ys r e =
      apart (total channel xs) (total channel ys) (risen channel xs ys) (risen_total xs ys r.as_many r.up) r.somewhere r.less e
    where
      apart : (s t k : ℕ) → s + k ≡ t → 0 < k → k < 2 ^ 24 → s % 2 ^ 24 ≡ t % 2 ^ 24 → ⊥
      apart s t k f p q g = omega arith

  -- ---- a stuck line

  -- two bytes that are one, or at most 128 apart
  step : (a b : ℕ) → a ≤ b → b ≤ a + 128 → (cond (eqb a b) 0 1 ≤ b - a) × (b - a ≤ 128 * cond (eqb a b) 0 1)
  step a b p q = go (eqb a b) refl
    where
      go : (t : Bool) → eqb a b ≡ t → (cond t 0 1 ≤ b - a) × (b - a ≤ 128 * cond t 0 1)
      go true e = (omega (arith, eqb-true a b e), omega (arith, eqb-true a b e))
      go false e = (more (below_or a b p (eqb-false a b e)), omega (arith, q))
        where
          below_or : (a b : ℕ) → a ≤ b → (a ≡ b → ⊥) → a < b
          below_or a b p n = omega (arith, n)

          more : a < b → 1 ≤ b - a
          more l = omega arith

  -- pixel by pixel: each byte stays, or rises by at most 128
  abbrev Steps : List ℕ → List ℕ → Type 0
  Steps xs ys = (i : ℕ) → i < length xs → (byte_in channel (get_or xs i 0) ≤ byte_in channel (get_or ys i 0)) × (byte_in channel (get_or ys i 0) ≤ byte_in channel (get_or xs i 0) + 128)

  risen_wrong : (xs ys : List ℕ) → length xs ≡ length ys → Steps xs ys → (wrong channel xs ys ≤ risen channel xs ys) × (risen channel xs ys ≤ 128 * wrong channel xs ys)
  risen_wrong [] [] n u = (omega arith, omega arith)
  risen_wrong [] (y ∷ ys) n u = absurd (omega arith)
  risen_wrong (x ∷ xs) [] n u = absurd (omega arith)
  risen_wrong (x ∷ xs) (y ∷ ys) n u =
      let head = step (byte_in channel x) (byte_in channel y) (u 0 (omega arith)).0 (u 0 (omega arith)).1 in
      let rest = risen_wrong xs ys (omega arith) (λ i l. u (suc i) (omega arith)) in
      (omega (arith, head.0, rest.0), omega (arith, head.1, rest.1))

  wrong_either : (xs ys : List ℕ) → wrong channel xs ys ≡ wrong channel ys xs
  wrong_either [] [] = refl
  wrong_either [] (y ∷ ys) = refl
  wrong_either (x ∷ xs) [] = refl
  wrong_either (x ∷ xs) (y ∷ ys) = rw (same (byte_in channel x) (byte_in channel y), wrong_either xs ys)
    where
      same : (a b : ℕ) → eqb a b ≡ eqb b a
      same a b = go (eqb a b) refl
        where
          go : (t : Bool) → eqb a b ≡ t → t ≡ eqb b a
          go true e = sym (eq-eqb b a (sym (eqb-true a b e)))
          go false e = sym (ne_eqb b a (λ f. eqb-false a b e (sym f)))

  steps_rise : (xs ys : List ℕ) → length xs ≡ length ys → Steps xs ys → 0 < wrong channel xs ys → wrong channel xs ys < 131072 → Rises channel xs ys
  steps_rise xs ys n u p q =
      let w = risen_wrong xs ys n u in
      record {
        as_many = n;
        up = λ i. up i (below i (length xs));
        somewhere = omega (arith, w.0);
        less = omega (arith, w.1);
      }
    where
      up : (i : ℕ) → (i < length xs) ⊎ (length xs ≤ i) → byte_in channel (get_or xs i 0) ≤ byte_in channel (get_or ys i 0)
      up i (inl l) = (u i l).0
      up i (inr l) = omega (arith, ap (byte_in channel) (sym (none_there xs i l) ∙ none_there ys i (omega arith)))

-- some channel rises where all three may
pub all_apart : (xs ys : List ℕ) → AllRise xs ys → ((channel : ℕ) → total channel xs % 2 ^ 24 ≡ total channel ys % 2 ^ 24) → ⊥
all_apart xs ys r e = go (below 0 (risen 0 xs ys)) (below 0 (risen 1 xs ys))
  where
    one : (channel : ℕ) → channel < 3 → 0 < risen channel xs ys → ⊥
    one channel l p = rises_apart channel xs ys (record { as_many = r.as_many; up = λ i. r.up channel i l; somewhere = p; less = r.less channel l }) (e channel)

    go : (0 < risen 0 xs ys) ⊎ (risen 0 xs ys ≤ 0) → (0 < risen 1 xs ys) ⊎ (risen 1 xs ys ≤ 0) → ⊥
    go (inl p) q = one 0 (omega arith) p
    go (inr p) (inl q) = one 1 (omega arith) q
    go (inr p) (inr q) = one 2 (omega arith) (omega (arith, r.somewhere))

line_most : (line : ℕ) → line < 8 → 2 ^ line ≤ 128
line_most line l = pow_mono {i = line} {j = 7} (omega arith)

stuck_high : (line byte : ℕ) → line < 8 → (byte ≤ stuck_at true line byte) × (stuck_at true line byte ≤ byte + 128)
stuck_high line byte l = go (eqb (byte / 2 ^ line % 2) 1)
  where
    go : (t : Bool) → (byte ≤ cond t byte (byte + 2 ^ line)) × (cond t byte (byte + 2 ^ line) ≤ byte + 128)
    go true = (omega arith, omega arith)
    go false = (omega arith, omega (arith, line_most line l))

stuck_low : (line byte : ℕ) → line < 8 → (stuck_at false line byte ≤ byte) × (byte ≤ stuck_at false line byte + 128)
stuck_low line byte l = go (eqb (byte / 2 ^ line % 2) 1)
  where
    go : (t : Bool) → (cond t (byte - 2 ^ line) byte ≤ byte) × (byte ≤ cond t (byte - 2 ^ line) byte + 128)
    go true = (omega arith, omega (arith, line_most line l))
    go false = (omega arith, omega arith)

pub stuck_apart : (channel line : ℕ) (high : Bool) (xs ys : List ℕ) → line < 8 → Stuck channel line high xs ys → total channel xs % 2 ^ 24 ≡ total channel ys % 2 ^ 24 → ⊥
stuck_apart channel line true xs ys l s e =
    rises_apart channel xs ys (steps_rise channel xs ys s.as_many (λ i p. rw (s.stuck i p) (stuck_high line _ l)) s.some s.fewer) e
stuck_apart channel line false xs ys l s e =
    rises_apart channel ys xs
    (steps_rise channel ys xs (sym s.as_many) (λ i p. rw (s.stuck i (omega (arith, s.as_many))) (stuck_low line _ l))
    (rw (wrong_either channel ys xs) s.some) (rw (wrong_either channel ys xs) s.fewer))
    (sym e)

-- ---- lists that differ so

pub set_apart : (xs : List ℕ) (i y : ℕ) → i < length xs → (get_or xs i 0 ≡ y → ⊥) → OneApart xs (set xs i y)
set_apart xs i y l n =
    record {
      as_many = sym (length-set xs i y);
      place = i;
      apart = λ e. n (e ∙ get_or-set_same xs i y 0 l);
      alike = λ j f. sym (get_or-set_other xs i j y 0 f);
    }

-- a pixel's byte raised, and no other touched
pub set_up : (xs : List ℕ) (i y : ℕ) → i < length xs → (channel : ℕ) → byte_in channel (get_or xs i 0) ≤ byte_in channel y → (j : ℕ) → byte_in channel (get_or xs j 0) ≤ byte_in channel (get_or (set xs i y) j 0)
set_up xs i y l channel h j = go (eqb j i) refl
  where
    go : (b : Bool) → eqb j i ≡ b → byte_in channel (get_or xs j 0) ≤ byte_in channel (get_or (set xs i y) j 0)
    go true e =
        subst (λ (k : ℕ). byte_in channel (get_or xs k 0) ≤ byte_in channel (get_or (set xs i y) k 0)) (sym (eqb-true j i e))
        (subst (λ (x : ℕ). byte_in channel (get_or xs i 0) ≤ byte_in channel x) (sym (get_or-set_same xs i y 0 l)) h)
    go false e = subst (λ (x : ℕ). byte_in channel (get_or xs j 0) ≤ byte_in channel x) (sym (get_or-set_other xs i j y 0 (eqb-false j i e))) (omega arith)

pub set_about : (xs : List ℕ) (i j : ℕ) → i < length xs → j < length xs → (j ≡ i → ⊥) → ChangedAbout xs (set (set xs i (get_or xs j 0)) j (get_or xs i 0))
set_about xs i j l k n =
    let once = set xs i (get_or xs j 0) in
    record {
      as_many = sym (length-set once j _ ∙ length-set xs i _);
      one = i;
      other = j;
      one_in = l;
      other_in = k;
      one_gets = get_or-set_other once j i _ 0 (λ e. n (sym e)) ∙ get_or-set_same xs i _ 0 l;
      other_gets = get_or-set_same once j _ 0 (omega (arith, length-set xs i (get_or xs j 0)));
      alike = λ m f g. sym (get_or-set_other once j m _ 0 g ∙ get_or-set_other xs i m _ 0 f);
    }

pub stuck_all : (channel line : ℕ) (high : Bool) (n x y : ℕ) → byte_in channel y ≡ stuck_at high line (byte_in channel x) → 0 < wrong channel (replicate n x) (replicate n y) →
    wrong channel (replicate n x) (replicate n y) < 131072 → Stuck channel line high (replicate n x) (replicate n y)
stuck_all channel line high n x y e p q =
    record {
      as_many = length-replicate n x ∙ sym (length-replicate n y);
      stuck = λ i l.
          let k : i < n = omega (arith, l, length-replicate n x) in
          ap (byte_in channel) (get_or-replicate n i y 0 k) ∙ e ∙ ap (λ (c : ℕ). stuck_at high line (byte_in channel c)) (sym (get_or-replicate n i x 0 k));
      some = p;
      fewer = q;
    }
