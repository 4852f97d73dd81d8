-- The bench screen and its neighbours (01, the section of that name): the starred rows, question and answer side by side.
-- Assumes nothing.
use Rattle.std.specs.Prelude.{ℕ, Bool, not, cond, List, [], ◌∷◌, ◌++◌, map, length, set, replicate}
use Rattle.screen.specs.Bench.{bench_parameters}
use Rattle.screen.specs.Totals.{totals_of}
use Rattle.signals.specs.declared.Dot.{Dot}
use Rattle.signals.specs.declared.Signals.{Signals}
use Rattle.machine.specs.Rules.{beginning, written}
use Rattle.machine.specs.Calls.{write, after_all, writes_from}
use Rattle.machine.specs.declared.Machine.{Machine}
use Rattle.worked.specs.Table.{Row, row, puts, those, numbers}

-- control A at 8 bits, increment 1, transfers on, cursor off, running: tesselated, and plain
abbrev pub tesselated : ℕ
tesselated = 0xB00001

abbrev pub plain : ℕ
plain = 0xB00011

-- the machine from its beginning with the bench screen written and started
unfoldable pub started : ℕ → Machine
started control = after_all beginning (writes_from 0x021 bench_parameters ++ (write 0x060 control ∷ []))

-- 16 bytes of picture memory
abbrev pub fives : List ℕ
fives = replicate 16 5

-- the numbers of one frame's ticks that pass
unfoldable pub ticks : ℕ → (Signals → Bool) → List ℕ
ticks control test = those test 0 (puts fives (started control) 63)

-- the four totals of the bench screen
abbrev pub totals : List ℕ
totals = numbers (totals_of tesselated bench_parameters)

-- what the control write answers that starts a screen, its parameters written from the beginning on; and one with a parameter changed
abbrev pub start : List ℕ → ℕ
start parameters = (written (after_all beginning (writes_from 0x021 parameters)) 0x060 tesselated).refusal

abbrev pub neighbour : ℕ → ℕ → List ℕ
neighbour k value = start (set bench_parameters k value) ∷ []

-- the colours of the first tick that is not blank, pixels 5 under palette 5, palette 0 and the mask
unfoldable pub first_colours : List Signals → List ℕ
first_colours [] = []
first_colours (s ∷ rest) = cond s.blank (first_colours rest) (map (λ (d : Dot). d.colour) s.dots)

unfoldable pub coloured : Machine
coloured =
    after_all beginning
    (writes_from 0x021 bench_parameters
    ++ (write 0x105 0x102030 ∷ write 0x100 0x0A0B0C ∷ write 0x040 0xFF00FF ∷ write 0x060 tesselated ∷ []))

-- the starred rows, in 01's order
unfoldable pub starred : List Row
starred =
    row (start bench_parameters ∷ totals) (0 ∷ 63 ∷ 4 ∷ 2 ∷ 16 ∷ []) ∷
    row (ticks tesselated (λ s. not s.blank)) (40 ∷ 41 ∷ 54 ∷ 55 ∷ []) ∷
    row (ticks tesselated (λ s. s.transfer)) (40 ∷ 54 ∷ []) ∷
    row (ticks tesselated (λ s. s.request)) (39 ∷ 41 ∷ 42 ∷ 43 ∷ 44 ∷ 45 ∷ 46 ∷ 47 ∷ 48 ∷ 49 ∷ 50 ∷ 51 ∷ 52 ∷ 53 ∷ 55 ∷ []) ∷
    row (length (ticks tesselated (λ s. not s.sync)) ∷ []) (12 ∷ []) ∷
    row (length (ticks plain (λ s. not s.sync)) ∷ []) (13 ∷ []) ∷
    row (neighbour 10 13) (11 ∷ []) ∷
    row (neighbour 10 12) (13 ∷ []) ∷
    row (neighbour 4 6) (0 ∷ []) ∷
    row (neighbour 4 7) (14 ∷ []) ∷
    row (neighbour 2 8) (0 ∷ []) ∷
    row (neighbour 2 9) (12 ∷ []) ∷
    row (neighbour 2 3) (15 ∷ []) ∷
    row (neighbour 8 3) (16 ∷ []) ∷
    row (first_colours (puts fives coloured 63)) (0x100B30 ∷ 0x100B30 ∷ 0x100B30 ∷ 0x100B30 ∷ []) ∷
    []
