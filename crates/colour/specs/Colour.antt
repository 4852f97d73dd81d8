-- The mask and the palette (01, "Rows and pixels"). Assumes nothing.
use Rattle.std.specs.Prelude.{ℕ, List, get_or}
use Rattle.std.specs.Int.Bits.{bit_and}
use Rattle.base.specs.Channels.{red, green, blue, joined}
use Rattle.base.specs.Count.{run}

-- for each channel, the pixel ANDed with that channel's byte of the mask picks the palette entry
unfoldable pub masked_colour : List ℕ → ℕ → ℕ → ℕ
masked_colour palette mask pixel =
    joined
    (red (get_or palette (bit_and pixel (red mask)) 0))
    (green (get_or palette (bit_and pixel (green mask)) 0))
    (blue (get_or palette (bit_and pixel (blue mask)) 0))

-- the mask applied to the whole palette: the colour of each of the 256 pixels
unfoldable pub masked_palette : List ℕ → ℕ → List ℕ
masked_palette palette mask = run (masked_colour palette mask) 0 256
