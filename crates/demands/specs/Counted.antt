-- The totals are counts (demand 3; 01, "What nobody may get past", invented totals): the four numbers that the program prints of a sheet are
-- counted over the ticks of a machine that the calls give from the beginning. Assumes nothing.
use Rattle.std.specs.Prelude.{ℕ, ◌≤◌, ◌<◌, List, [], ◌∷◌, ◌++◌, map, ◌≡◌, length}
use Rattle.base.specs.Count.{count}
use Rattle.control.specs.Control.{interlaced, depth}
use Rattle.screen.specs.Totals.{totals_of}
use Rattle.screen.specs.declared.totals.Totals.{Totals}
use Rattle.sheet.specs.Reader.{read_sheet}
use Rattle.machine.specs.Calls.{write, writes_from}
use Rattle.machine.specs.Rules.{beginning, written}
use Rattle.machine.specs.declared.Machine.{Machine}
use Rattle.frame.specs.Frame.{AtStart}
use Rattle.picture.specs.Machines.{ticked}
use Rattle.demands.specs.Asked.{Asked, of, after_every, TakenEvery}
use Rattle.demands.specs.Demand3.{answer, shows, transfers, dots_shown, Begins}

-- the program's control word: 8 bits a pixel, increment 1, transfers on. It asks for limits alone, so bit 0 is clear; the same word with bit 0
-- set starts the screen
abbrev pub eight_bits : ℕ
eight_bits = 0x300000

abbrev pub eight_bits_running : ℕ
eight_bits_running = 0x300001

-- what it answers of a good sheet
abbrev pub printed : List ℕ → Totals
printed sheet = totals_of eight_bits (read_sheet sheet).values

-- the machine from its beginning with the sheet's fourteen values written from #021 on, and then started
abbrev pub fourteen_writes : List ℕ → List Asked
fourteen_writes sheet = map of (writes_from 0x021 (read_sheet sheet).values)

abbrev pub start_calls : List ℕ → List Asked
start_calls sheet = fourteen_writes sheet ++ (of (write 0x060 eight_bits_running) ∷ [])

abbrev pub started_from : List ℕ → Machine
started_from sheet = after_every beginning (start_calls sheet)

-- four totals that are the counts of a machine's next frame: its ticks come back to its start, and no fewer do; those not blank; the addresses
-- answered; the pixels put out
pub record Counted (m : Machine) (memory : List ℕ) (t : Totals) : Type 0 where
  pub begins : Begins m memory
  pub some : 0 < t.ticks.0
  pub unrefused : (k : ℕ) → k < t.ticks.0 → (answer m memory k).refusal ≡ 0
  pub returns : AtStart (ticked m memory t.ticks.0).generator
  pub not_before : (k : ℕ) → 0 < k → k < t.ticks.0 → AtStart (ticked m memory k).generator → ⊥
  pub visible : count (shows m memory) t.ticks.0 ≡ t.visible.0
  pub transferred : count (transfers m memory) t.ticks.0 ≡ t.transfers
  pub pixels : length (dots_shown m memory t.ticks.0) ≡ t.pixels.0

-- of a good sheet: the fourteen writes are accepted; the program refuses exactly what the machine's start is refused for; and what it does not
-- refuse is started, and its four numbers are the counts, with any memory of a byte a pixel or more
pub record TotalsCounted (sheet : List ℕ) : Type 0 where
  pub taken : TakenEvery beginning (fourteen_writes sheet)
  pub refused : (printed sheet).refusal ≡ (written (after_every beginning (fourteen_writes sheet)) 0x060 eight_bits_running).refusal
  pub started : (printed sheet).refusal ≡ 0 → TakenEvery beginning (start_calls sheet)
  pub counted : (printed sheet).refusal ≡ 0 → (memory : List ℕ) → (printed sheet).pixels.0 ≤ length memory → Counted (started_from sheet) memory (printed sheet)

-- of every machine whose frame is ready to start, in either format, the totals call answers the counts
abbrev pub TotalsOfFrames : Type 0
TotalsOfFrames = (calls : List Asked) (m : Machine) → m ≡ after_every beginning calls → (memory : List ℕ) → Begins m memory → Counted m memory (totals_of m.regs.control m.regs.params)

-- and of every control word, transfers off or outside the build among them, the totals call looks at the depth and the format alone
abbrev pub TotalsByDepth : Type 0
TotalsByDepth =
    (control other : ℕ) (params : List ℕ) → depth other ≡ depth control → interlaced other ≡ interlaced control → totals_of other params ≡ totals_of control params
