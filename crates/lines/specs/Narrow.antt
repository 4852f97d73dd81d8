-- A screen whose counts each fit 32 bits, as those read from registers do: no sum that the code makes of them is too large. Assumes nothing.
use Rattle.std.specs.Prelude.{◌^◌, ◌<◌}
use Rattle.units.specs.declared.Screen.{Screen}

pub record Narrow (s : Screen) : Type 0 where
  pub halfsync : s.halfsync.0 < 2 ^ 32
  pub backporch : s.backporch.0 < 2 ^ 32
  pub display : s.display.0 < 2 ^ 32
  pub vsync : s.vsync.0 < 2 ^ 32
  pub vpreequalise : s.vpreequalise.0 < 2 ^ 32
  pub vpostequalise : s.vpostequalise.0 < 2 ^ 32
  pub vblank : s.vblank.0 < 2 ^ 32
  pub vdisplay : s.vdisplay.0 < 2 ^ 32
  pub linetime : s.linetime.0 < 2 ^ 32
