-- The three checksum words hold all of the three sums. Assumes nothing.
use Prim.Native.Nat.{ℕ, ◌+◌, ◌*◌, ◌/◌, ◌%◌, ◌^◌, ◌<◌}
use mathlib.Core.List.{List}
use mathlib.Core.Path.{◌≡◌, sym, ap, ◌∙◌}
use native.Mathlib.Omega.{arith}
use lib.ListN.{get_or}
use Rattle.base.specs.Channels.{joined}
use Rattle.base.specs.Count.{run}
use Rattle.pixel.specs.Sums.{Below24}
use Rattle.pixel.specs.declared.Sums.{Sums}
use Rattle.machine.specs.Words.{checksum_words}

-- THE THREE WORDS TELL ANY TWO TRIPLES OF SUMS APART: each byte of a word is one sum's, and three bytes are all of a sum of 24 bits
whole_sum : (n : ℕ) → n < 2 ^ 24 → n ≡ n % 256 + 256 * (n / 256 % 256) + 65536 * (n / 65536 % 256)
whole_sum n p = omega arith

same_sum : (a b : ℕ) → a < 2 ^ 24 → b < 2 ^ 24 → a % 256 ≡ b % 256 → a / 256 % 256 ≡ b / 256 % 256 → a / 65536 % 256 ≡ b / 65536 % 256 → a ≡ b
same_sum a b p q low middle high = whole_sum a p ∙ rw (low, middle, high) (sym (whole_sum b q))

-- three bytes of a word are its own
same_word : (r g b x y z : ℕ) → r < 256 → g < 256 → b < 256 → x < 256 → y < 256 → z < 256 → joined r g b ≡ joined x y z → (r ≡ x) × (g ≡ y) × (b ≡ z)
same_word r g b x y z k l m n o p e = (omega arith, omega arith, omega arith)

pub words_apart : (a b : Sums) → Below24 a → Below24 b → checksum_words a ≡ checksum_words b → a ≡ b
unfolding checksum_words run
words_apart a b p q e =
    let low = same_word _ _ _ _ _ _ (omega arith) (omega arith) (omega arith) (omega arith) (omega arith) (omega arith) (ap (λ (l : List ℕ). get_or l 0 0) e) in
    let middle = same_word _ _ _ _ _ _ (omega arith) (omega arith) (omega arith) (omega arith) (omega arith) (omega arith) (ap (λ (l : List ℕ). get_or l 1 0) e) in
    let high = same_word _ _ _ _ _ _ (omega arith) (omega arith) (omega arith) (omega arith) (omega arith) (omega arith) (ap (λ (l : List ℕ). get_or l 2 0) e) in
    joined_sums a b (same_sum a.red b.red p.red q.red (omega (arith, low.0)) middle.0 high.0)
    (same_sum a.green b.green p.green q.green (omega (arith, low.1)) middle.1 high.1)
    (same_sum a.blue b.blue p.blue q.blue (omega (arith, low.2)) middle.2 high.2)
  where
    joined_sums : (x y : Sums) → x.red ≡ y.red → x.green ≡ y.green → x.blue ≡ y.blue → x ≡ y
    joined_sums x y r g b =
        ap (λ (n : ℕ). record { red = n; green = x.green; blue = x.blue }) r
        ∙ ap (λ (n : ℕ). record { red = y.red; green = n; blue = x.blue }) g
        ∙ ap (λ (n : ℕ). record { red = y.red; green = y.green; blue = n }) b
