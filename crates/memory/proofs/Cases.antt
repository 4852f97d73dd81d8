-- Cases of this crate's functions: a pixel out of its byte. Assumes nothing.
use Prim.Native.Nat.{ℕ, ◌-◌, ◌*◌, ◌/◌, ◌%◌, ◌^◌, ◌<◌}
use mathlib.Core.Path.{◌≡◌, ◌∙◌}
use native.Mathlib.Omega.{arith}
use lib.Bits.{bit_and}
use mir.Facts.{Fits-lt, Fits-lit}
use mir.Syntax.{w32}
use mir.Val.{Fits}
use Rattle.control.specs.Control.{depth, pixel_bits}
use Rattle.memory.specs.Memory.{pixel_in}
use Rattle.memory.proofs.Bytes.{number_masked, number_small, whole_byte, shift_by}

module _ (control byte place per : ℕ) (whole : per * pixel_bits control ≡ 8) where
  -- the pixel of its number there
  pub in_byte : (code pixel : ℕ) → code ≡ depth control → pixel ≡ byte / 2 ^ (place % per * 2 ^ code) % 2 ^ (2 ^ code) → pixel ≡ pixel_in (pixel_bits control) byte place
  in_byte code pixel d e = e ∙ rw (d, shift_by per (pixel_bits control) whole place)

  pub in_whole : per ≡ 1 → byte < 256 → byte ≡ pixel_in (pixel_bits control) byte place
  in_whole one small =
      let eight : pixel_bits control ≡ 8 = omega (arith, rw one at whole) in
      rw eight (whole_byte byte place small)

-- the same where its number is a mask of its place
module _ (control place per : ℕ) (whole : per * pixel_bits control ≡ 8) where
  masked : bit_and place (per - 1) ≡ place % per
  masked = number_masked (depth control) (omega arith) per whole place

  pub masked_small : bit_and place (per - 1) < 8
  masked_small = rw masked (number_small per (pixel_bits control) whole place)

  pub masked_fits : Fits w32 (bit_and place (per - 1))
  masked_fits = Fits-lt masked_small (Fits-lit tt)

  pub in_byte_masked : (byte code pixel : ℕ) → code ≡ depth control → pixel ≡ byte / 2 ^ (bit_and place (per - 1) * 2 ^ code) % 2 ^ (2 ^ code) → pixel ≡ pixel_in (pixel_bits control) byte place
  in_byte_masked byte code pixel d e = in_byte control byte place per whole code pixel d (e ∙ rw masked)
