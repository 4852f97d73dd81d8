-- The bench screen (01, "The bench screen and its neighbours"), started at 8 bits with increment 256 and top 7, and the interlaced one beside it
-- (02, Q-4) with increment 2. Assumes nothing.
use Rattle.std.specs.Prelude.{ℕ, List}
use Rattle.screen.specs.Bench.{bench_parameters, interlaced_parameters}
use Rattle.registers.specs.File.{zeros}
use Rattle.registers.specs.declared.Registers.{Registers}

-- depth code 3 in bits 21 and 20, increment code 1 in bits 13 and 12, bit 0 runs
abbrev pub bench_control : ℕ
bench_control = 0x301001

-- and bit 1
abbrev pub interlaced_control : ℕ
interlaced_control = 0x301003

-- all other registers as they begin
unfoldable pub started_with : List ℕ → ℕ → Registers
started_with params control =
    record {
      params = params;
      mask = zeros.mask;
      control = control;
      top = 7;
      colours = zeros.colours;
      position = zeros.position;
      palette = zeros.palette;
      store = zeros.store;
    }

abbrev pub bench_registers : Registers
bench_registers = started_with bench_parameters bench_control

abbrev pub interlaced_registers : Registers
interlaced_registers = started_with interlaced_parameters interlaced_control
