-- A patient's thresholds by ear and frequency, and a line's levels put among them. Assumes nothing.
use Rattle.std.specs.Prelude.{ℕ, Bool, false, not, cond, Option, Some, None, Result, Ok, Err, is_some, is_none, ltb, eqb, get_or, set, replicate}
use Rattle.patient.specs.declared.Fault.{Fault}
use Rattle.patient.specs.declared.Fault.TheVariants.{UnknownFrequency, GivenTwice, MissingEar, TooManyWords}
use Rattle.patient.specs.declared.thresholds.Chart.{Chart}

-- no line has given a frequency yet: a level that no chart shows
abbrev pub not_given : ℕ
not_given = 255

-- a chart for which no line was read yet
abbrev pub fresh : Chart
fresh = record { right = replicate 11 not_given; left = replicate 11 not_given }

-- the first fault of a line: the frequency, then the words, then the levels
abbrev pub fault_of : Bool → Option ℕ → ℕ → Option Fault → Option Fault → Option Fault
fault_of given k words right left =
    cond (is_none k) (Some UnknownFrequency)
    (cond given (Some GivenTwice)
    (cond (ltb words 3) (Some MissingEar)
    (cond (ltb 3 words) (Some TooManyWords)
    (cond (is_some right) right left))))

-- a line has given a frequency of the chart
abbrev pub given_on : Chart → Option ℕ → Bool
given_on chart None = false
given_on chart (Some k) = not (eqb (get_or chart.right k 0) not_given)

-- what is wrong with a level
abbrev pub fault_in : Result ℕ Fault → Option Fault
fault_in (Ok number) = None
fault_in (Err fault) = Some fault

-- the fault of a line for a chart
unfoldable pub placed_fault : Chart → Option ℕ → ℕ → Result ℕ Fault → Result ℕ Fault → Option Fault
placed_fault chart k words right left = fault_of (given_on chart k) k words (fault_in right) (fault_in left)

-- the chart with two levels at a frequency
abbrev pub levelled : Chart → Option ℕ → Result ℕ Fault → Result ℕ Fault → Chart
levelled chart None right left = chart
levelled chart (Some k) (Err fault) left = chart
levelled chart (Some k) (Ok r) (Err fault) = chart
levelled chart (Some k) (Ok r) (Ok l) = record { right = set chart.right k r; left = set chart.left k l }

abbrev pub unless_fault : Option Fault → Chart → Result Chart Fault
unless_fault None chart = Ok chart
unless_fault (Some fault) chart = Err fault

-- the levels on the chart: the first is the right ear's, the second the left ear's; a fault gives no chart
unfoldable pub placed : Chart → Option ℕ → ℕ → Result ℕ Fault → Result ℕ Fault → Result Chart Fault
placed chart k words right left = unless_fault (placed_fault chart k words right left) (levelled chart k right left)
