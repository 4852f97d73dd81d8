-- What callers know of a pixel and of the sums. Assumes nothing.
use Prim.Native.Nat.{ℕ, zero, suc, ◌+◌, ◌*◌, ◌/◌, ◌%◌, ◌<◌}
use mathlib.Core.Bool.{Bool, true, false}
use mathlib.Core.Path.{◌≡◌, refl, ap}
use mathlib.Core.List.{List, [], ◌∷◌, ◌++◌}
use native.Mathlib.Omega.{arith}
use lib.ListN.{length, get_or}
use Rattle.base.specs.Sum.{rolled}
use Rattle.base.specs.Channels.{red, green, blue, joined}
use Rattle.base.specs.Count.{run}
use Rattle.cursor.specs.Cursor.{code_over}
use Rattle.registers.specs.File.{numbers_of}
use Rattle.registers.specs.declared.Registers.{Registers}
use Rattle.signals.specs.Signals.{colours_of}
use Rattle.signals.specs.declared.Dot.{Dot}
use Rattle.pixel.specs.Dot.{dot_below, dot_at}
use Rattle.pixel.specs.Sums.{none, added, summed, cleared_at, summed_where, Below24}
use Rattle.pixel.specs.declared.Sums.{Sums}

-- a pixel that no code of the cursor covers
pub dot_uncovered : (r : Registers) (position : ℕ) (memory : List ℕ) (place x y : ℕ) → code_over r.control position r.store x y ≡ 0 → dot_below (numbers_of r) r.palette memory place ≡ dot_at r position memory place x y
unfolding dot_at
dot_uncovered r position memory place x y e = rw e

-- the colours of a run of pixels are a run of theirs
pub colours_run : (f : ℕ → Dot) (from n : ℕ) → colours_of (run f from n) ≡ run (λ k. (f k).colour) from n
unfolding run
colours_run f from zero = refl
colours_run f from (suc n) = ap (λ (l : List ℕ). (f from).colour ∷ l) (colours_run f (suc from) n)

-- the sums of two lists of colours, one after the other
pub summed_join : (s : Sums) (a b : List ℕ) → summed s (a ++ b) ≡ summed (summed s a) b
unfolding summed
summed_join s [] b = refl
summed_join s (colour ∷ a) b = summed_join (added s colour) a b

-- the four colours of a list of four, one after the other
pub four_summed : (l : List ℕ) → length l ≡ 4 → (s : Sums) → added (added (added (added s (get_or l 0 0)) (get_or l 1 0)) (get_or l 2 0)) (get_or l 3 0) ≡ summed s l
unfolding summed
four_summed [] e s = absurd (omega arith)
four_summed (a ∷ []) e s = absurd (omega arith)
four_summed (a ∷ b ∷ []) e s = absurd (omega arith)
four_summed (a ∷ b ∷ c ∷ []) e s = absurd (omega arith)
four_summed (a ∷ b ∷ c ∷ d ∷ []) e s = refl
four_summed (a ∷ b ∷ c ∷ d ∷ x ∷ rest) e s = absurd (omega arith)

-- a part of each of four words, added up
abbrev pub four : (ℕ → ℕ) → (ℕ → ℕ) → ℕ
four part word = part (word 0) + part (word 1) + part (word 2) + part (word 3)

-- four bytes added at once roll over as if one by one
four_rolled : (sum : ℕ) (byte word : ℕ → ℕ) → rolled sum (four byte word) ≡ rolled (rolled (rolled (rolled sum (byte (word 0))) (byte (word 1))) (byte (word 2))) (byte (word 3))
four_rolled sum byte word = omega arith

-- what the code adds up: a word with no green, and its green alone
abbrev pub red_and_blue : ℕ → ℕ
red_and_blue word = joined (red word) 0 (blue word)

abbrev pub green_alone : ℕ → ℕ
green_alone word = joined 0 (green word) 0

low_part : (high low : ℕ) → low < 0x10000 → (high * 0x10000 + low) % 0x10000 ≡ low
low_part high low p = omega arith

-- the bytes of four words, added up in their places: none reaches the next
module _ (word : ℕ → ℕ) where
  reds : four red_and_blue word / 0x10000 ≡ four red word
  reds = omega arith

  greens : four green_alone word / 0x100 ≡ four green word
  greens = omega arith

  blues : four red_and_blue word % 0x10000 ≡ four blue word
  blues =
      let apart : four red_and_blue word ≡ four red word * 0x10000 + four blue word = omega arith in
      rw apart (low_part (four red word) (four blue word) (omega arith))

-- the sums with four colours, all at once
pub four_by : (s : Sums) (l : List ℕ) → length l ≡ 4 → (both alone : ℕ) → both ≡ four red_and_blue (λ k. get_or l k 0) → alone ≡ four green_alone (λ k. get_or l k 0) →
    record { red = rolled s.red (both / 0x10000); green = rolled s.green (alone / 0x100); blue = rolled s.blue (both % 0x10000) } ≡ summed s l
four_by s l e both alone eb ea =
    let word : ℕ → ℕ = λ k. get_or l k 0 in
    rw (eb, ea, reds word, greens word, blues word, four_rolled s.red red word, four_rolled s.green green word, four_rolled s.blue blue word) (four_summed l e s)

-- what is summed stays below 2^24
pub none_below : Below24 none
none_below = record { red = omega arith; green = omega arith; blue = omega arith }

pub summed_below : (s : Sums) (colours : List ℕ) → Below24 s → Below24 (summed s colours)
unfolding summed
summed_below s [] b = b
summed_below s (colour ∷ rest) b = summed_below (added s colour) rest (record { red = omega arith; green = omega arith; blue = omega arith })

pub where_below : (opens shows : Bool) (s : Sums) (colours : List ℕ) → Below24 s → Below24 (summed_where shows (cleared_at opens s) colours)
where_below true true s colours b = summed_below none colours none_below
where_below true false s colours b = none_below
where_below false true s colours b = summed_below s colours b
where_below false false s colours b = b
