-- The worked lines, by computation: each one's fault, and where a good line's two levels come to stand. Assumes nothing.
use mathlib.Core.Path.{◌≡◌, refl}
use mathlib.Core.List.{[], ◌∷◌, map}
use lib.ListN.{set}
use Rattle.std.specs.Prelude.{Ok}
use Rattle.words.specs.Words
use Rattle.words.specs.Numbers
use Rattle.patient.specs.Thresholds
use Rattle.patient.specs.Levels
use Rattle.patient.specs.Patient
use Rattle.patient.specs.Examples.{Row, rows, begun, chart_after, fault_after}

-- each line has the fault beside it
pub faults_found : map (λ (r : Row). fault_after (chart_after r.line)) rows ≡ map (λ (r : Row). r.fault) rows
unfolding Words.past_run Words.front Words.word_at Words.begins Numbers.value_from Numbers.strange Numbers.digits_number Numbers.number_of Levels.plain_number Levels.signed_level Levels.level_of Thresholds.placed_fault Thresholds.placed Patient.words_read Patient.line_read
faults_found = refl

-- `1000 -10 120`: the fifth frequency, the right ear at the top of the chart, the left ear at its bottom
pub levels_placed : chart_after (49 ∷ 48 ∷ 48 ∷ 48 ∷ 32 ∷ 45 ∷ 49 ∷ 48 ∷ 32 ∷ 49 ∷ 50 ∷ 48 ∷ []) ≡ Ok (record { right = set begun.right 4 0; left = set begun.left 4 26 })
unfolding Words.past_run Words.front Words.word_at Words.begins Numbers.value_from Numbers.strange Numbers.digits_number Numbers.number_of Levels.plain_number Levels.signed_level Levels.level_of Thresholds.placed_fault Thresholds.placed Patient.words_read Patient.line_read
levels_placed = refl
