-- Lines of a patient's sheet and what is wrong with each, for a chart that has 250 Hz already. Assumes nothing.
use Rattle.std.specs.Prelude.{ℕ, List, [], ◌∷◌, Option, Some, None, Result, Ok, Err, set}
use Rattle.patient.specs.declared.Fault.{Fault}
use Rattle.patient.specs.declared.Fault.TheVariants.{UnknownFrequency, GivenTwice, MissingEar, TooManyWords, NotALevel, OutOfRange, NotAStep}
use Rattle.patient.specs.declared.thresholds.Chart.{Chart}
use Rattle.patient.specs.Thresholds.{fresh}
use Rattle.patient.specs.Patient.{line_read}

-- a line, and its fault, if it has one
pub record Row : Type 0 where
  pub line : List ℕ
  pub fault : Option Fault

abbrev pub row : List ℕ → Option Fault → Row
row line fault = record { line = line; fault = fault }

-- the chart after `250 0 0`
abbrev pub begun : Chart
begun = record { right = set fresh.right 1 2; left = set fresh.left 1 2 }

abbrev pub rows : List Row
rows =
    row (49 ∷ 48 ∷ 48 ∷ 48 ∷ 32 ∷ 45 ∷ 49 ∷ 48 ∷ 32 ∷ 49 ∷ 50 ∷ 48 ∷ []) None ∷  -- 1000 -10 120
    row (49 ∷ 48 ∷ 48 ∷ 48 ∷ 32 ∷ 45 ∷ 32 ∷ 53 ∷ []) None ∷  -- 1000 - 5
    row (59 ∷ 32 ∷ 49 ∷ 48 ∷ 48 ∷ 48 ∷ 32 ∷ 72 ∷ 122 ∷ []) None ∷  -- ; 1000 Hz
    row ([]) None ∷  -- an empty line
    row (49 ∷ 49 ∷ 48 ∷ 48 ∷ 32 ∷ 48 ∷ 32 ∷ 48 ∷ []) (Some UnknownFrequency) ∷  -- 1100 0 0
    row (35 ∷ 51 ∷ 69 ∷ 56 ∷ 32 ∷ 48 ∷ 32 ∷ 48 ∷ []) (Some UnknownFrequency) ∷  -- #3E8 0 0
    row (50 ∷ 53 ∷ 48 ∷ 32 ∷ 53 ∷ 32 ∷ 53 ∷ []) (Some GivenTwice) ∷  -- 250 5 5
    row (49 ∷ 48 ∷ 48 ∷ 48 ∷ 32 ∷ 48 ∷ []) (Some MissingEar) ∷  -- 1000 0
    row (49 ∷ 48 ∷ 48 ∷ 48 ∷ 32 ∷ 48 ∷ 32 ∷ 48 ∷ 32 ∷ 48 ∷ []) (Some TooManyWords) ∷  -- 1000 0 0 0
    row (49 ∷ 48 ∷ 48 ∷ 48 ∷ 32 ∷ 120 ∷ 32 ∷ 48 ∷ []) (Some NotALevel) ∷  -- 1000 x 0
    row (49 ∷ 48 ∷ 48 ∷ 48 ∷ 32 ∷ 48 ∷ 32 ∷ 45 ∷ 45 ∷ 53 ∷ []) (Some NotALevel) ∷  -- 1000 0 --5
    row (49 ∷ 48 ∷ 48 ∷ 48 ∷ 32 ∷ 49 ∷ 50 ∷ 53 ∷ 32 ∷ 48 ∷ []) (Some OutOfRange) ∷  -- 1000 125 0
    row (49 ∷ 48 ∷ 48 ∷ 48 ∷ 32 ∷ 48 ∷ 32 ∷ 45 ∷ 49 ∷ 53 ∷ []) (Some OutOfRange) ∷  -- 1000 0 -15
    row (49 ∷ 48 ∷ 48 ∷ 48 ∷ 32 ∷ 51 ∷ 32 ∷ 48 ∷ []) (Some NotAStep) ∷  -- 1000 3 0
    row (49 ∷ 48 ∷ 48 ∷ 48 ∷ 32 ∷ 48 ∷ 32 ∷ 45 ∷ 55 ∷ []) (Some NotAStep) ∷  -- 1000 0 -7
    []

-- what reading a line gives, for that chart, and its fault
abbrev pub chart_after : List ℕ → Result Chart Fault
chart_after line = line_read begun line

abbrev pub fault_after : Result Chart Fault → Option Fault
fault_after (Ok chart) = None
fault_after (Err fault) = Some fault
