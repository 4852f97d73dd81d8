-- The values of a sheet, copied. Assumes nothing.
use Prim.Native.Nat.{ℕ, zero, suc, ◌+◌, ◌≤◌, ◌<◌}
use mathlib.Core.List.{List, [], ◌∷◌}
use mathlib.Core.Path.{◌≡◌, refl, ◌∙◌}
use native.Mathlib.Omega.{arith}
use lib.ListN.{length, get_or, take, drop, length-take, length-drop}
use Rattle.std.proofs.Common.{drop-cons}
use Rattle.room.specs.Room.{laid}
use Rattle.paperwork.specs.Store.{sheet_values}

-- n numbers from number k on
abbrev row : ℕ → ℕ → List ℕ → List ℕ
row zero k numbers = []
row (suc n) k numbers = get_or numbers k 0 ∷ row n (suc k) numbers

row_is : (n k : ℕ) (numbers : List ℕ) → k + n ≤ length numbers → take n (drop k numbers) ≡ row n k numbers
row_is zero k numbers h = refl
row_is (suc n) k numbers h =
    let l : k < length numbers = omega arith in
    rw (drop-cons numbers k 0, row_is n (suc k) numbers (omega arith)) refl

pub fourteen : (numbers now : List ℕ) → now ≡ take 14 (drop 1 numbers) → length now ≡ 14 → now ≡ sheet_values numbers
unfolding laid
fourteen numbers now e h = e ∙ row_is 14 1 numbers (omega (arith, rw e at h, length-take 14 (drop 1 numbers), length-drop 1 numbers))
