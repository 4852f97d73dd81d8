-- Registers that differ only where document 01 says "without effect": LineStart, and bits 2 and 5 to 9 of control A; or in bit 4, which
-- changes the sync alone. Assumes nothing.
use Rattle.std.specs.Prelude.{ℕ, ◌/◌, ◌%◌, ◌≡◌}
use Rattle.units.specs.declared.Screen.{Screen}
use Rattle.registers.specs.declared.Registers.{Registers}
use Rattle.generator.specs.Rows.{screen}
use Rattle.generator.specs.declared.Ticked.{Ticked}

-- two control words that agree in bits 0, 1 and 3 and from bit 10 on; bit 4 is asked about where it counts
pub record SameMode (control other : ℕ) : Type 0 where
  pub low : other % 4 ≡ control % 4
  pub middle : other / 8 % 2 ≡ control / 8 % 2
  pub high : other / 1024 ≡ control / 1024

-- a screen with another LineStart
abbrev pub with_line_start : Screen → ℕ → Screen
with_line_start s n =
    record {
      halfsync = s.halfsync;
      backporch = s.backporch;
      display = s.display;
      shortdisplay = s.shortdisplay;
      broadpulse = s.broadpulse;
      vsync = s.vsync;
      vpreequalise = s.vpreequalise;
      vpostequalise = s.vpostequalise;
      vblank = s.vblank;
      vdisplay = s.vdisplay;
      linetime = s.linetime;
      linestart = record { 0 = n };
      meminit = s.meminit;
      transferdelay = s.transferdelay;
      interlaced = s.interlaced;
      second = s.second;
    }

pub record Alike (r other : Registers) (n : ℕ) : Type 0 where
  pub line_start : screen other ≡ with_line_start (screen r) n
  pub mode : SameMode r.control other.control
  pub mask : other.mask ≡ r.mask
  pub top : other.top ≡ r.top
  pub colours : other.colours ≡ r.colours
  pub position : other.position ≡ r.position
  pub palette : other.palette ≡ r.palette
  pub store : other.store ≡ r.store

-- two ticks of one refusal, with the same colours, that leave the same generator, sums with it
pub record SameColours (a b : Ticked) : Type 0 where
  pub refusal : a.refusal ≡ b.refusal
  pub dots : a.signals.dots ≡ b.signals.dots
  pub next : a.next ≡ b.next
