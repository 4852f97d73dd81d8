-- The calls that a user of the machine has: write, read, tick, the tick with its record lent, and a whole picture; what each answers, and the
-- machine after it. Assumes nothing.
use Rattle.std.specs.Prelude.{ℕ, List, [], ◌∷◌, ◌≡◌, length}
use Rattle.signals.specs.declared.Signals.{Signals}
use Rattle.generator.specs.Tick.{tick_of}
use Rattle.generator.specs.declared.Generator.{Generator}
use Rattle.machine.specs.Calls.{Call, write, read, tick, after_call, Spares}
use Rattle.machine.specs.Rules.{written, answered, advanced}
use Rattle.machine.specs.declared.Machine.{Machine}
use Rattle.picture.specs.Picture.{buffer_of}
use Rattle.picture.specs.Machines.{pictured}

-- one of the machine's own; a tick of the generator lent, with a picture memory; a picture from a memory into a buffer
pub data Asked : Type 0 where
  of : Call → Asked
  lent : List ℕ → Asked
  picture : List ℕ → List ℕ → Asked

-- the machine after a call, and after a list of them
abbrev pub after_asked : Machine → Asked → Machine
after_asked m (of call) = after_call m call
after_asked m (lent memory) = record { regs = m.regs; generator = (tick_of m.regs memory m.generator).next }
after_asked m (picture memory buffer) = (pictured m memory (length buffer)).machine

abbrev pub after_every : Machine → List Asked → Machine
after_every m [] = m
after_every m (call ∷ rest) = after_every (after_asked m call) rest

-- what a call gives beside its refusal: a value read, a tick's signals, those and the record lent, or the bytes of the buffer
pub data Given : Type 0 where
  nothing : Given
  value_read : ℕ → Given
  put_out : Signals → Given
  put_out_lent : Signals → Generator → Given
  bytes : List ℕ → Given

-- all that it answers
pub record Answer : Type 0 where
  pub refusal : ℕ
  pub given : Given

abbrev pub answer_to : Machine → Asked → Answer
answer_to m (of (write address value)) = record { refusal = (written m address value).refusal; given = nothing }
answer_to m (of (read address)) = record { refusal = (answered m address).refusal; given = value_read (answered m address).value }
answer_to m (of (tick memory)) = record { refusal = (advanced m memory).refusal; given = put_out (advanced m memory).signals }
answer_to m (lent memory) =
    record {
      refusal = (tick_of m.regs memory m.generator).refusal;
      given = put_out_lent (tick_of m.regs memory m.generator).signals (tick_of m.regs memory m.generator).next;
    }
answer_to m (picture memory buffer) =
    record { refusal = (pictured m memory (length buffer)).refusal; given = bytes (buffer_of m.regs memory m.generator buffer) }

-- every one of the calls is accepted
abbrev pub TakenEvery : Machine → List Asked → Type 0
TakenEvery m [] = Unit
TakenEvery m (call ∷ rest) = ((answer_to m call).refusal ≡ 0) × TakenEvery (after_asked m call) rest

-- a call that does not read an address
abbrev pub ReadsElsewhere : ℕ → Asked → Type 0
ReadsElsewhere a (of (write address value)) = Unit
ReadsElsewhere a (of (read address)) = address ≡ a → ⊥
ReadsElsewhere a (of (tick memory)) = Unit
ReadsElsewhere a (lent memory) = Unit
ReadsElsewhere a (picture memory buffer) = Unit

-- none of the calls is an accepted write at an address
abbrev pub SparesAsked : ℕ → Machine → Asked → Type 0
SparesAsked a m (of call) = Spares a m call
SparesAsked a m (lent memory) = Unit
SparesAsked a m (picture memory buffer) = Unit

abbrev pub UntouchedEvery : ℕ → Machine → List Asked → Type 0
UntouchedEvery a m [] = Unit
UntouchedEvery a m (call ∷ rest) = SparesAsked a m call × UntouchedEvery a (after_asked m call) rest
