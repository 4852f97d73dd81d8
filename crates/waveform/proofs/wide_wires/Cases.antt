-- A number's bits in their places. Assumes nothing.
use Prim.Native.Nat.{ℕ, ◌+◌, ◌-◌, ◌/◌, ◌%◌, ◌^◌}
use mathlib.Core.List.{List, [], ◌∷◌, ◌++◌}
use mathlib.Core.Path.{◌≡◌, refl}
use lib.ListN.{replicate, set}
use Rattle.std.proofs.Common.{zero-add}
use Rattle.room.specs.Room.{laid}
use Rattle.room.proofs.Laying.{laid_next}
use Rattle.waveform.specs.WideWires.{bus_text}

-- the n most significant bits of a number laid where `b` stood
abbrev pub bits_laid : ℕ → ℕ → List ℕ
bits_laid value n = laid (λ k. 48 + value / 2 ^ (23 - k) % 2) (replicate 24 98) 0 n

pub bus_laid : (mark value : ℕ) → 98 ∷ (bits_laid value 24 ++ (32 ∷ mark ∷ 10 ∷ [])) ≡ bus_text mark value
unfolding laid
bus_laid mark value = refl

pub bit_laid : (value k : ℕ) (now : List ℕ) (b : ℕ) → now ≡ bits_laid value k → b ≡ 48 + value / 2 ^ (23 - k) % 2 → set now k b ≡ bits_laid value (k + 1)
bit_laid value k now b e h = rw zero-add at (laid_next (λ j. 48 + value / 2 ^ (23 - j) % 2) (replicate 24 98) 0 k now b e h)
