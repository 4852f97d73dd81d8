-- The fewest decimal digits are one number. Assumes nothing.
use Prim.Native.Nat.{ℕ, zero, suc, ◌+◌, ◌-◌, ◌^◌, ◌≤◌, ◌<◌}
use mathlib.Core.Bool.{Bool, true, false}
use mathlib.Core.Path.{◌≡◌, refl, sym, ap, ◌∙◌}
use native.Mathlib.Nat.{le_trans, pow-le-pow_right}
use native.Mathlib.Omega.{arith}
use lib.Dec.{ltb}
use borrow.Author.Tests.{lt-ltb, le-ltb, ltb-true, ltb-false}
use Rattle.io.specs.Digits.{last_digits, IsDigitCount}
use Rattle.text.specs.Decimal.{places, decimal_text}

places_end : (least value : ℕ) → places least 0 value ≡ least
unfolding places
places_end least value = refl

module _ (least more value : ℕ) where
  places_here : value < 10 ^ least → places least (suc more) value ≡ least
  unfolding places
  places_here h = simp (lt-ltb value (10 ^ least) h)

  places_more : 10 ^ least ≤ value → places least (suc more) value ≡ places (suc least) more value
  unfolding places
  places_more h = simp (le-ltb value (10 ^ least) h)

-- the digits counted from `least` on are the fewest
pub fewest_places : (least more k value : ℕ) → least ≤ k → k ≤ least + more → value < 10 ^ k → (least < k → 10 ^ (k - 1) ≤ value) → k ≡ places least more value
fewest_places least zero k value h l n f = let same : k ≡ least = omega arith in same ∙ sym (places_end least value)
fewest_places least (suc more) k value h l n f = go (ltb least k) refl (λ below. fewest_places (suc least) more k value below (omega arith) n (λ g. f below))
  where
    go : (t : Bool) → ltb least k ≡ t → (least < k → k ≡ places (suc least) more value) → k ≡ places least (suc more) value
    go true e later =
        let below = ltb-true least k e in
        later below ∙ sym (places_more least more value (le_trans (pow-le-pow_right (omega arith) (omega arith)) (f below)))
    go false e later =
        let same : k ≡ least = omega (arith, ltb-false least k e) in
        same ∙ sym (places_here least more value (rw (← same) n))

-- a number of 64 bits has no more than twenty digits
twenty : (value k : ℕ) → value < 2 ^ 64 → (1 < k → 10 ^ (k - 1) ≤ value) → k ≤ 20
twenty value k v f = go (ltb 20 k) refl
  where
    go : (t : Bool) → ltb 20 k ≡ t → k ≤ 20
    go true e =
        let over = ltb-true 20 k e in
        let least : 10 ^ 20 ≤ 10 ^ (k - 1) = pow-le-pow_right {n = 10} (omega arith) {i = 20} {j = k - 1} (omega arith) in
        absurd (omega (arith, least, f (omega arith), v))
    go false e = ltb-false 20 k e

-- what `io::decimal` puts is the number's text
pub decimal_whole : (value k : ℕ) → value < 2 ^ 64 → IsDigitCount 10 1 value k → last_digits 10 k value ≡ decimal_text value
unfolding decimal_text
decimal_whole value k v (h, n, f) =
    let most = twenty value k v f in
    ap (λ j. last_digits 10 j value) (fewest_places 1 19 k value h (omega arith) n f)
