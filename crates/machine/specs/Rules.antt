-- The machine's calls (01, "Starting a screen", "Refusal numbers"): what a write, a read and a tick answer, and the machine after.
-- Assumes nothing.
use Rattle.std.specs.Prelude.{ℕ, Bool, not, cond, ◌&&◌, List, eqb, get_or}
use Rattle.control.specs.Control.{running}
use Rattle.registers.specs.Map.{place_of, number_in_row, is_control, is_checksum, is_reserved}
use Rattle.registers.specs.File.{zeros, value_in, store_in}
use Rattle.machine.specs.Access.{refuses3, write_refusal}
use Rattle.machine.specs.Words.{checksum_words}
use Rattle.registers.specs.declared.map.Place.{Place}
use Rattle.registers.specs.declared.Registers.{Registers}
use Rattle.generator.specs.Counters.{displaying, fresh}
use Rattle.generator.specs.Tick.{tick_of}
use Rattle.machine.specs.declared.Machine.{Machine}
use Rattle.machine.specs.declared.Written.{Written}
use Rattle.machine.specs.declared.Answered.{Answered}
use Rattle.machine.specs.declared.Advanced.{Advanced}

-- all registers begin at 0, and the generator stopped
abbrev pub beginning : Machine
beginning = record { regs = zeros; generator = fresh }

-- ---- writing

-- bit 0 of control A goes from 0 to 1
abbrev pub starts : Registers → Place → ℕ → Bool
starts r p value = is_control p && running value && not (running r.control)

-- the machine after an accepted write: a start also puts the generator before its first tick, checksums at zero
unfoldable pub stored : Machine → Place → ℕ → Machine
stored m p value =
    record { regs = store_in m.regs p value; generator = cond (starts m.regs p value) fresh m.generator }

-- after a refused write the state handed back equals the state given
unfoldable pub written : Machine → ℕ → ℕ → Written
written m address value =
    record {
      refusal = write_refusal m.regs (place_of address) value;
      machine = cond (eqb (write_refusal m.regs (place_of address) value) 0) (stored m (place_of address) value) m;
    }

-- ---- reading

-- 5: a checksum read while running, the next tick not in flyback
abbrev pub refuses5 : Machine → Place → Bool
refuses5 m p = is_checksum p && displaying m.regs m.generator

-- the order for a read: 2, 3, 5
unfoldable pub read_refusal : Machine → Place → ℕ
read_refusal m p = cond (is_reserved p) 2 (cond (refuses3 m.regs p) 3 (cond (refuses5 m p) 5 0))

unfoldable pub value_at : Machine → Place → ℕ
value_at m p = cond (is_checksum p) (get_or (checksum_words m.generator.sums) (number_in_row p) 0) (value_in m.regs p)

-- a refused read gives 0; no read changes the machine
unfoldable pub answered : Machine → ℕ → Answered
answered m address =
    record {
      refusal = read_refusal m (place_of address);
      value = cond (eqb (read_refusal m (place_of address)) 0) (value_at m (place_of address)) 0;
      machine = m;
    }

-- ---- ticking

-- one tick: the generator's, the registers as they were
unfoldable pub advanced : Machine → List ℕ → Advanced
advanced m memory =
    record {
      refusal = (tick_of m.regs memory m.generator).refusal;
      signals = (tick_of m.regs memory m.generator).signals;
      machine = record { regs = m.regs; generator = (tick_of m.regs memory m.generator).next };
    }
