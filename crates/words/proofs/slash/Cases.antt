-- What stands around a `/`, place by place. Assumes nothing.
use Prim.Native.Nat.{ℕ, suc, ◌+◌, ◌-◌, ◌≤◌, ◌<◌}
use mathlib.Core.Bool.{true, false}
use mathlib.Core.List.{List}
use mathlib.Core.Path.{◌≡◌}
use native.Mathlib.Omega.{arith}
use lib.ListN.{length}
use Rattle.words.specs.Slash.{alone, slash_from}

-- a turn over the places of a `/`
module _ (line : List ℕ) (i : ℕ) where
  pub slash_here : i < length line → alone line i ≡ true → slash_from line i (length line - i) ≡ i
  unfolding slash_from
  slash_here h e = let n : length line - i ≡ suc (length line - (i + 1)) = omega arith in rw n (simp e)

  pub slash_on : i < length line → alone line i ≡ false → slash_from line (i + 1) (length line - (i + 1)) ≡ slash_from line i (length line - i)
  unfolding slash_from
  slash_on h e = let n : length line - i ≡ suc (length line - (i + 1)) = omega arith in rw n (simp e)

  pub slash_end : length line ≤ i → slash_from line i (length line - i) ≡ i
  unfolding slash_from
  slash_end h = let n : length line - i ≡ 0 = omega arith in rw n

pub ruleset slash = (slash_here, slash_on, slash_end)
