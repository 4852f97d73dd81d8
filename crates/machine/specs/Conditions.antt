-- The one condition of a machine (01, "What nobody may get past"), and when a control word may start it (01, "Starting a screen"; 02, Q-4).
-- Assumes nothing.
use Rattle.std.specs.Prelude.{ℕ, ◌≤◌, false, ◌≡◌}
use Rattle.control.specs.Control.{outside}
use Rattle.screen.specs.Limits.{limit_of}
use Rattle.generator.specs.Rows.{screen_under}
use Rattle.generator.specs.Sound.{Sound}
use Rattle.machine.specs.Access.{changes_format}
use Rattle.machine.specs.declared.Machine.{Machine}

-- its registers and its generator keep the one condition
abbrev pub SoundMachine : Machine → Type 0
SoundMachine m = Sound m.regs m.generator

-- a control word of 24 bits in the build that changes no running format, under which the registers keep every limit
pub record Startable (m : Machine) (value : ℕ) : Type 0 where
  pub narrow : value ≤ 0xFFFFFF
  pub in_build : outside value ≡ false
  pub keeps_format : changes_format m.regs value ≡ false
  pub limits : limit_of value (screen_under m.regs value) ≡ 0
