-- A patient's thresholds, a line a frequency: frequency in Hz, right ear, left ear. Assumes nothing.
use Rattle.std.specs.Prelude.{ℕ, Bool, cond, ◌||◌, List, [], ◌∷◌, Option, None, Result, Ok, Err, ◌==◌, ltb, eqb, length, get_or}
use Rattle.std.specs.List.{position}
use Rattle.words.specs.Words.{word_at, word_count}
use Rattle.words.specs.declared.number.NumberFault.{NumberFault}
use Rattle.patient.specs.declared.Fault.{Fault}
use Rattle.patient.specs.declared.Fault.TheVariants.{TooLong}
use Rattle.patient.specs.declared.thresholds.Chart.{Chart}
use Rattle.patient.specs.Thresholds.{placed}
use Rattle.patient.specs.Levels.{plain_number, level_of}

-- the frequencies in Hz, left to right
abbrev pub frequencies : List ℕ
frequencies = 125 ∷ 250 ∷ 500 ∷ 750 ∷ 1000 ∷ 1500 ∷ 2000 ∷ 3000 ∷ 4000 ∷ 6000 ∷ 8000 ∷ []

-- the number of a frequency, left to right; none for any other
abbrev pub frequency_of : Result ℕ NumberFault → Option ℕ
frequency_of (Ok hertz) = position (λ f. f == hertz) frequencies
frequency_of (Err fault) = None

-- word 0 is the frequency, word 1 the right ear's level, word 2 the left ear's
unfoldable pub words_read : Chart → List ℕ → Result Chart Fault
words_read chart line =
    placed chart (frequency_of (plain_number (word_at 0 line))) (word_count line) (level_of (word_at 1 line)) (level_of (word_at 2 line))

-- no word, or the first of a remark
abbrev pub remark_word : List ℕ → Bool
remark_word word = eqb (length word) 0 || eqb (get_or word 0 0) 59

-- A LINE READ: one of more than 1,000 bytes is too long, whatever it holds; a remark leaves the chart as it is
unfoldable pub line_read : Chart → List ℕ → Result Chart Fault
line_read chart line =
    cond (ltb 1000 (length line))
    (Err TooLong)
    (cond (remark_word (word_at 0 line)) (Ok chart) (words_read chart line))
