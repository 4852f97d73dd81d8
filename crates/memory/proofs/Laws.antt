-- What callers know of picture memory: where it ends, and a pixel out of the byte that it stands in. Assumes nothing.
use Prim.Native.Nat.{ℕ, ◌+◌, ◌-◌, ◌*◌, ◌%◌, ◌^◌, ◌≤◌, ◌<◌}
use mathlib.Core.Path.{◌≡◌, sym, ◌∙◌}
use mathlib.Core.Bool.{true, false}
use mathlib.Core.List.{List}
use native.Mathlib.Nat.{one-mul, mul-le-mul_right}
use native.Mathlib.Omega.{arith}
use borrow.Author.Tests.{lt-ltb, le-ltb, ltb-true, ltb-false, leb-false}
use lib.Dec.{leb}
use lib.ListN.{length, get_or}
use lib.Pow.{shl_exact}
use Rattle.control.specs.Control.{depth, pixel_bits, transferring}
use Rattle.memory.specs.Memory.{byte_of, pixel_in, ends_beyond, pixel_shown}
use Rattle.memory.proofs.Bytes.{filled, whole_byte, byte_by, shift_by, pixel_inside, byte_beyond}

-- a one shifted left is a power of two
pub one_bit : (n : ℕ) → n < 64 → 1 * 2 ^ n % 2 ^ 64 ≡ 2 ^ n
one_bit n h = shl_exact {a = 1} 1 n 64 (omega arith) (omega arith) ∙ one-mul (2 ^ n)

-- once a place ends beyond the memory, so does every later one
pub ends_beyond_later : (bits : ℕ) (memory : List ℕ) (place later : ℕ) → place ≤ later → ends_beyond bits memory place ≡ true → ends_beyond bits memory later ≡ true
ends_beyond_later bits memory place later h e =
    lt-ltb (8 * length memory) ((later + 1) * bits)
    (omega (arith, ltb-true (8 * length memory) ((place + 1) * bits) e, mul-le-mul_right {m = place + 1} {n = later + 1} bits (omega arith)))

-- and before one that does not, none does
pub held_earlier : (bits : ℕ) (memory : List ℕ) (place later : ℕ) → place ≤ later → ends_beyond bits memory later ≡ false → ends_beyond bits memory place ≡ false
held_earlier bits memory place later h e =
    le-ltb (8 * length memory) ((place + 1) * bits)
    (omega (arith, ltb-false (8 * length memory) ((later + 1) * bits) e, mul-le-mul_right {m = place + 1} {n = later + 1} bits (omega arith)))

module _ (control : ℕ) (memory : List ℕ) (place : ℕ) where
  -- pixels in a byte
  abbrev per : ℕ
  per = 2 ^ (3 - depth control)

  fills : per * pixel_bits control ≡ 8
  fills = filled (depth control) (omega arith)

  -- the pixel shown is the one in its byte
  pub shown_in : transferring control ≡ true → pixel_in (pixel_bits control) (get_or memory (byte_of (pixel_bits control) place) 0) place ≡ pixel_shown control memory place
  unfolding pixel_shown
  shown_in on = simp on (rw (← (byte_by per (pixel_bits control) fills place), ← (shift_by per (pixel_bits control) fills place)) (sym (pixel_inside per (pixel_bits control) fills place memory)))

  pub shown_off : transferring control ≡ false → 0 ≡ pixel_shown control memory place
  unfolding pixel_shown
  shown_off off = simp off

  -- a pixel ends beyond the memory exactly when its byte does
  pub beyond_by : leb (length memory) (byte_of (pixel_bits control) place) ≡ ends_beyond (pixel_bits control) memory place
  beyond_by = rw (← (byte_by per (pixel_bits control) fills place)) (byte_beyond per (pixel_bits control) fills place memory)

  module _ (ends : ends_beyond (pixel_bits control) memory place ≡ false) where
    pub byte_held : byte_of (pixel_bits control) place < length memory
    byte_held = leb-false (length memory) (byte_of (pixel_bits control) place) (beyond_by ∙ ends)

    -- at 8 bits a pixel is the byte at its place
    pub whole_held : depth control ≡ 3 → place < length memory
    whole_held eight = omega (arith, rw eight at byte_held)

  pub shown_whole : transferring control ≡ true → depth control ≡ 3 → get_or memory place 0 < 256 → get_or memory place 0 ≡ pixel_shown control memory place
  shown_whole on eight small =
      let at_place : byte_of 8 place ≡ place = omega arith in
      whole_byte (get_or memory place 0) place small ∙ rw (eight, at_place) at (shown_in on)
