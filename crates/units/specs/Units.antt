-- The three units and their conversions (01, "Starting a screen"). Assumes nothing.
use Rattle.std.specs.Prelude.{◌*◌, ◌/◌}
use Rattle.units.specs.declared.ScreenUnits.{ScreenUnits}
use Rattle.units.specs.declared.HalfLines.{HalfLines}
use Rattle.units.specs.declared.Pixels.{Pixels}

-- one screen unit is four pixels
abbrev pub pixels_of : ScreenUnits → Pixels
pixels_of units = record { 0 = 4 * units.0 }

-- a half line is half the line time (of an odd one, which no screen starts with, rounded down)
abbrev pub units_of : HalfLines → ScreenUnits → ScreenUnits
units_of lines linetime = record { 0 = linetime.0 / 2 * lines.0 }
