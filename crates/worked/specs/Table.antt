-- A table of questions and answers, and what a machine's ticks put out. Assumes nothing.
use Rattle.std.specs.Prelude.{ℕ, zero, suc, Bool, cond, List, [], ◌∷◌, ◌≡◌}
use Rattle.screen.specs.declared.totals.Totals.{Totals}
use Rattle.signals.specs.declared.Signals.{Signals}
use Rattle.machine.specs.Rules.{advanced}
use Rattle.machine.specs.declared.Machine.{Machine}

pub record Row : Type 0 where
  pub asked : List ℕ
  pub answer : List ℕ

abbrev pub row : List ℕ → List ℕ → Row
row asked answer = record { asked = asked; answer = answer }

-- each row's question has its answer
abbrev pub Holds : List Row → Type 0
Holds [] = Unit
Holds (r ∷ rest) = (r.asked ≡ r.answer) × Holds rest

-- what a machine's next n ticks put out, with a picture memory
unfoldable pub puts : List ℕ → Machine → ℕ → List Signals
puts memory m zero = []
puts memory m (suc n) = (advanced m memory).signals ∷ puts memory (advanced m memory).machine n

-- the numbers of those that pass a test, counted from `from`
unfoldable pub those : {A : Type 0} → (A → Bool) → ℕ → List A → List ℕ
those test from [] = []
those test from (x ∷ rest) = cond (test x) (from ∷ those test (suc from) rest) (those test (suc from) rest)

abbrev pub numbers : Totals → List ℕ
numbers t = t.ticks.0 ∷ t.visible.0 ∷ t.transfers ∷ t.pixels.0 ∷ []
