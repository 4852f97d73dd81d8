-- An interlaced bench screen (02, Q-4): one frame of it, question and answer side by side. The screen is ours, and its answers were worked out by
-- hand. Assumes nothing.
use Rattle.std.specs.Prelude.{ℕ, zero, suc, ◌+◌, ◌-◌, Bool, not, cond, List, [], ◌∷◌, ◌++◌, map, ◌≡◌, get_or, replicate}
use Rattle.base.specs.Count.{run}
use Rattle.screen.specs.Totals.{totals_of}
use Rattle.screen.specs.Bench.{interlaced_parameters}
use Rattle.signals.specs.declared.Signals.{Signals}
use Rattle.generator.specs.Rows.{shows, held_address, place}
use Rattle.generator.specs.Counters.{is_start}
use Rattle.machine.specs.Rules.{beginning, written, advanced}
use Rattle.machine.specs.Calls.{write, after_all, writes_from}
use Rattle.machine.specs.declared.Machine.{Machine}
use Rattle.worked.specs.Table.{Row, row, puts, those, numbers}

-- control A at 8 bits, transfers on, tesselated, interlaced and running: code 01, and code 00
abbrev pub code01 : ℕ
code01 = 0x301003

abbrev pub code00 : ℕ
code00 = 0x300003

-- the machine from its beginning with that screen and top 7 written, and then started
unfoldable pub ready : Machine
ready = after_all beginning (writes_from 0x021 interlaced_parameters ++ (write 0x080 7 ∷ []))

unfoldable pub started : ℕ → Machine
started control = (written ready 0x060 control).machine

-- picture memory up to its last pixel, the fourth of row 14
abbrev pub bytes : List ℕ
bytes = replicate 172 5

-- what the ticks of one frame put out, and the numbers of those that pass
unfoldable pub frame : List Signals
frame = puts bytes (started code01) 98

abbrev pub ticks : (Signals → Bool) → List ℕ
ticks test = those test 0 frame

-- the addresses of the transfers, in order
unfoldable pub addresses : List Signals → List ℕ
addresses [] = []
addresses (s ∷ rest) = cond s.transfer (s.address ∷ addresses rest) (addresses rest)

-- a machine, and those after each of its next n ticks
unfoldable pub machines : Machine → ℕ → List Machine
machines m zero = m ∷ []
machines m (suc n) = m ∷ machines (advanced m bytes).machine n

-- the numbers from one up to another
abbrev pub span : ℕ → ℕ → List ℕ
span first last = run (λ k. k) first (last + 1 - first)

-- its rows: the start and the totals; the visible ticks, the transfers with their addresses and the request; low sync, low vertical sync and low
-- FrameInactive; and where a frame begins, which the second field does not
unfoldable pub interlaced_rows : List Row
interlaced_rows =
    row ((written ready 0x060 code01).refusal ∷ numbers (totals_of code01 interlaced_parameters)) (0 ∷ 98 ∷ 18 ∷ 7 ∷ 72 ∷ []) ∷
    row (ticks (λ s. not s.blank)) (span 33 38 ++ span 47 48 ++ span 77 80 ++ span 89 94) ∷
    row (ticks (λ s. s.transfer)) (33 ∷ 36 ∷ 47 ∷ 77 ∷ 80 ∷ 91 ∷ 94 ∷ []) ∷
    row (addresses frame) (7 ∷ 9 ∷ 11 ∷ 8 ∷ 10 ∷ 12 ∷ 14 ∷ []) ∷
    row (ticks (λ s. s.request)) (32 ∷ 35 ∷ (span 38 46 ++ (76 ∷ 79 ∷ 90 ∷ 93 ∷ []))) ∷
    row (ticks (λ s. not s.sync)) (0 ∷ (span 7 10 ++ (14 ∷ 28 ∷ 29 ∷ 42 ∷ 43 ∷ 49 ∷ (span 56 59 ++ (63 ∷ 70 ∷ 71 ∷ 84 ∷ 85 ∷ []))))) ∷
    row (ticks (λ s. not s.vsync)) (span 7 13 ++ span 56 62) ∷
    row (ticks (λ s. not s.inactive)) (span 28 48 ++ span 77 97) ∷
    row (those (λ (m : Machine). is_start m.generator) 0 (machines (started code01) 98)) (0 ∷ 98 ∷ []) ∷
    []

-- of the tick that a machine stands before, where it is shown: its field, its v, and the place in picture memory of its first pixel; and of
-- the one after n ticks with code 00
abbrev pub shown_at : Machine → List ℕ
shown_at m =
    cond (shows m.regs m.generator)
    (cond m.generator.second 2 1 ∷ m.generator.seen.0 ∷ place m.regs (held_address m.regs m.generator) m.generator.seen.0 0 ∷ [])
    []

abbrev pub shown_after : ℕ → List ℕ
shown_after n = get_or (map shown_at (machines (started code00) 77)) n []

-- with code 00 row 8 is shown in both fields: visible tick 3 of the first and visible tick 0 of the second begin at one place
abbrev pub ShownTwice : Type 0
ShownTwice = (shown_after 36 ≡ 1 ∷ 3 ∷ 96 ∷ []) × (shown_after 77 ≡ 2 ∷ 0 ∷ 96 ∷ [])
