-- One pixel put out (01, "Rows and pixels"): the cursor over the palette. Assumes nothing.
use Rattle.std.specs.Prelude.{ℕ, List}
use Rattle.registers.specs.declared.Numbers.{Numbers}
use Rattle.registers.specs.declared.Registers.{Registers}
use Rattle.memory.specs.Memory.{pixel_shown}
use Rattle.colour.specs.Colour.{masked_colour}
use Rattle.cursor.specs.Cursor.{code_over, over}
use Rattle.signals.specs.declared.Dot.{Dot}

-- a pixel with no cursor over it
abbrev pub coloured : Numbers → List ℕ → ℕ → Dot
coloured n palette pixel = record { colour = masked_colour palette n.mask pixel }

-- what stands at a place of the picture memory, with no cursor over it
abbrev pub dot_below : Numbers → List ℕ → List ℕ → ℕ → Dot
dot_below n palette memory place = coloured n palette (pixel_shown n.control memory place)

-- pixel x of line y, which stands at a place of the picture memory; the cursor's position is a parameter of the rule
unfoldable pub dot_at : Registers → ℕ → List ℕ → ℕ → ℕ → ℕ → Dot
dot_at r position memory place x y =
    record {
      colour =
          over r.colours (code_over r.control position r.store x y) (masked_colour r.palette r.mask (pixel_shown r.control memory place));
    }
