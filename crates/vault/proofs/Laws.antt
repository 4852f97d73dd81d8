-- What the rules of the checksums come to, for callers: the nine bytes tell the words apart, and equal is equal. Assumes nothing.
use Prim.Native.Nat.{ℕ, ◌+◌, ◌*◌, ◌^◌, ◌<◌}
use mathlib.Core.Path.{◌≡◌, refl, sym, ◌∙◌, ap}
use mathlib.Core.Bool.{true, true≢false}
use mathlib.Core.List.{List, [], ◌∷◌}
use native.Mathlib.Omega.{arith}
use borrow.Author.Tests.{eq-eqb, eqb-true}
use lib.Dec.{eqb}
use lib.ListN.{length, get_or, drop_of_length-le}
use lib.Seq.{drop-cons}
use Rattle.base.specs.Channels.{red, green, blue}
use Rattle.vault.specs.Nine.{nine_bytes}
use Rattle.vault.specs.Compare.{match, nine_long, compared}
use Rattle.base.proofs.Bools.{both_hold}

-- lists that match are equal
pub match_equal : (a b : List ℕ) → match a b ≡ true → a ≡ b
unfolding match
match_equal [] [] e = refl
match_equal [] (y ∷ b) e = absurd (true≢false (sym e))
match_equal (x ∷ a) [] e = absurd (true≢false (sym e))
match_equal (x ∷ a) (y ∷ b) e =
    let parts = both_hold (eqb x y) (match a b) e in
    let head = eqb-true x y parts.0 in
    let tail = match_equal a b parts.1 in
    cc

-- a list matches itself
pub match_self : (a : List ℕ) → match a a ≡ true
unfolding match
match_self [] = refl
match_self (x ∷ a) = rw (eq-eqb x x refl) (match_self a)

-- equal is true exactly when the two are one list of nine bytes: only then, and always then
pub equal_same : (a b : List ℕ) → (compared a b).equal ≡ true → (length a ≡ 9) × (a ≡ b)
equal_same a b e =
    let parts = both_hold (nine_long a b) (match a b) e in
    (eqb-true (length a) 9 (both_hold (eqb (length a) 9) (eqb (length b) 9) parts.0).0, match_equal a b parts.1)

pub same_equal : (a b : List ℕ) → length a ≡ 9 → a ≡ b → (compared a b).equal ≡ true
same_equal a b nine e = rw (← e, eq-eqb (length a) 9 nine) (match_self a)

rebuilt : (word : ℕ) → word < 2 ^ 24 → 65536 * red word + (256 * green word + blue word) ≡ word
rebuilt word small = omega arith

-- words below 2^24 with the same three bytes are one
pub word_injective : (a b : ℕ) → a < 2 ^ 24 → b < 2 ^ 24 → red a ≡ red b → green a ≡ green b → blue a ≡ blue b → a ≡ b
word_injective a b small small' r g l = sym (rebuilt a small) ∙ (cc) ∙ rebuilt b small'

three : (a : List ℕ) → length a ≡ 3 → a ≡ get_or a 0 0 ∷ get_or a 1 0 ∷ get_or a 2 0 ∷ []
three a size =
    rw (← drop_of_length-le a {i = 3} (omega arith), ← drop-cons a 2 0 (omega arith), ← drop-cons a 1 0 (omega arith), ← drop-cons a 0 0 (omega arith))

-- words below 2^24 with the same nine bytes are the same words
pub nine_injective : (a b : List ℕ) → length a ≡ 3 → length b ≡ 3 → ((k : ℕ) → get_or a k 0 < 2 ^ 24) → ((k : ℕ) → get_or b k 0 < 2 ^ 24) → nine_bytes a ≡ nine_bytes b → a ≡ b
nine_injective a b size size' small small' e =
    let byte : (k : ℕ) → get_or (nine_bytes a) k 0 ≡ get_or (nine_bytes b) k 0 = λ k. ap (λ (list : List ℕ). get_or list k 0) e in
    let low = word_injective (get_or a 0 0) (get_or b 0 0) (small 0) (small' 0) (byte 0) (byte 1) (byte 2) in
    let middle = word_injective (get_or a 1 0) (get_or b 1 0) (small 1) (small' 1) (byte 3) (byte 4) (byte 5) in
    let high = word_injective (get_or a 2 0) (get_or b 2 0) (small 2) (small' 2) (byte 6) (byte 7) (byte 8) in
    cc (three a size, three b size')
