-- The bench screen (01, "The bench screen and its neighbours"), and an interlaced one beside it (02, Q-4), which is ours. Assumes nothing.
use Rattle.std.specs.Prelude.{ℕ, List, [], ◌∷◌}

-- in register order
abbrev pub bench_parameters : List ℕ
bench_parameters = 1 ∷ 3 ∷ 2 ∷ 1 ∷ 4 ∷ 1 ∷ 1 ∷ 1 ∷ 2 ∷ 4 ∷ 14 ∷ 0 ∷ 1 ∷ 1 ∷ []

-- two fields of seven half lines of seven ticks: VDisplay begins with a first half in the one, which shows eight ticks, and with a second half in
-- the other, which shows ten
abbrev pub interlaced_parameters : List ℕ
interlaced_parameters = 1 ∷ 3 ∷ 6 ∷ 1 ∷ 4 ∷ 1 ∷ 1 ∷ 1 ∷ 1 ∷ 3 ∷ 14 ∷ 0 ∷ 2 ∷ 1 ∷ []
