-- What callers know of a colour: its bytes, the mask, the masked palette. Assumes nothing.
use Prim.Native.Nat.{ℕ, ◌<◌}
use mathlib.Core.Path.{◌≡◌, sym, ap, ◌∙◌}
use mathlib.Core.List.{List}
use native.Mathlib.Omega.{arith}
use lib.Bits.{bit_and}
use lib.ListN.{length, get_or}
use Rattle.base.proofs.Run.{run_length, run_entry}
use Rattle.base.specs.Channels.{red, green, blue, joined}
use Rattle.colour.specs.Colour.{masked_colour, masked_palette}

-- a colour made of three bytes has these bytes
module _ (r g b : ℕ) (p : r < 0x100) (q : g < 0x100) (s : b < 0x100) where
  pub red_of_colour : red (joined r g b) ≡ r
  red_of_colour = omega arith

  pub green_of_colour : green (joined r g b) ≡ g
  green_of_colour = omega arith

  pub blue_of_colour : blue (joined r g b) ≡ b
  blue_of_colour = omega arith

module _ (palette : List ℕ) (mask pixel : ℕ) where
  -- a colour put out has 24 bits
  pub masked_colour_bound : masked_colour palette mask pixel < 0x1000000
  unfolding masked_colour
  masked_colour_bound = omega arith

  -- each byte of a pixel's colour is that byte of the entry which its own byte of the mask picks
  pub masked_colour_red : red (masked_colour palette mask pixel) ≡ red (get_or palette (bit_and pixel (red mask)) 0)
  unfolding masked_colour
  masked_colour_red = red_of_colour _ _ _ (omega arith) (omega arith) (omega arith)

  pub masked_colour_green : green (masked_colour palette mask pixel) ≡ green (get_or palette (bit_and pixel (green mask)) 0)
  unfolding masked_colour
  masked_colour_green = green_of_colour (red (get_or palette (bit_and pixel (red mask)) 0)) _ _ (omega arith) (omega arith) (omega arith)

  pub masked_colour_blue : blue (masked_colour palette mask pixel) ≡ blue (get_or palette (bit_and pixel (blue mask)) 0)
  unfolding masked_colour
  masked_colour_blue = blue_of_colour (red (get_or palette (bit_and pixel (red mask)) 0)) (green (get_or palette (bit_and pixel (green mask)) 0)) _ (omega arith) (omega arith) (omega arith)

-- two palettes that give a pixel the same colour agree, channel by channel, at the entries that it picks
pub palettes_agree : (a b : List ℕ) (mask pixel : ℕ) → masked_colour a mask pixel ≡ masked_colour b mask pixel →
    (red (get_or a (bit_and pixel (red mask)) 0) ≡ red (get_or b (bit_and pixel (red mask)) 0)) ×
    (green (get_or a (bit_and pixel (green mask)) 0) ≡ green (get_or b (bit_and pixel (green mask)) 0)) ×
    (blue (get_or a (bit_and pixel (blue mask)) 0) ≡ blue (get_or b (bit_and pixel (blue mask)) 0))
palettes_agree a b mask pixel e = (
  sym (masked_colour_red a mask pixel) ∙ ap red e ∙ masked_colour_red b mask pixel,
  sym (masked_colour_green a mask pixel) ∙ ap green e ∙ masked_colour_green b mask pixel,
  sym (masked_colour_blue a mask pixel) ∙ ap blue e ∙ masked_colour_blue b mask pixel,
)

-- the masked palette has an entry for each pixel, which is its colour
pub masked_palette_length : (palette : List ℕ) (mask : ℕ) → length (masked_palette palette mask) ≡ 256
unfolding masked_palette
masked_palette_length palette mask = run_length (masked_colour palette mask) 0 256

pub masked_palette_entry : (palette : List ℕ) (mask pixel : ℕ) → pixel < 256 → get_or (masked_palette palette mask) pixel 0 ≡ masked_colour palette mask pixel
unfolding masked_palette
masked_palette_entry palette mask pixel h = run_entry (masked_colour palette mask) 0 256 pixel 0 h ∙ ap (masked_colour palette mask) (omega arith)
