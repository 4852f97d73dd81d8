-- A pixel stands inside one byte of the memory: one proof for every depth. Assumes nothing.
use Prim.Native.Nat.{ℕ, zero, suc, ◌+◌, ◌-◌, ◌*◌, ◌/◌, ◌%◌, ◌^◌, ◌≤◌, ◌<◌}
use mathlib.Core.Path.{◌≡◌, refl, sym, ap, ◌∙◌}
use mathlib.Core.Bool.{Bool, true, false}
use mathlib.Core.List.{List}
use native.Mathlib.Nat.{mod-one, mod-lt, div-add-mod, add-mul, zero-mul, one-mul, suc-mul, mul_comm, mul_right_comm, mul-div_cancel, mul-le-mul_right, le-mul_of_pos_right}
use native.Mathlib.Numerals.{add-one}
use native.Mathlib.Omega.{arith}
use borrow.Author.Tests.{lt-ltb, le-ltb, leb-true, leb-false}
use lib.Bits.{bit_and, and_mask}
use lib.Dec.{leb}
use lib.ListN.{length, get_or}
use lib.Pow.{pow_pos, pow-add, shr-shr, mod-pow-add}
use Rattle.memory.specs.Memory.{bit_at, bits_at, pixel_at, pixel_in, ends_beyond}

module _ (memory : List ℕ) (k : ℕ) where
  bit_inside : (shift : ℕ) → shift < 8 → bit_at memory (8 * k + shift) ≡ get_or memory k 0 / 2 ^ shift % 2
  bit_inside shift h =
      let byte : (8 * k + shift) / 8 ≡ k = omega arith in
      let rest : (8 * k + shift) % 8 ≡ shift = omega arith in
      rw (byte, rest)

  -- bits inside byte k make the number that stands there
  bits_inside : (count shift : ℕ) → shift + count ≤ 8 → bits_at memory (8 * k + shift) count ≡ get_or memory k 0 / 2 ^ shift % 2 ^ count
  unfolding bits_at
  bits_inside zero shift h = sym (mod-one _)
  bits_inside (suc count) shift h =
      let byte = get_or memory k 0 in
      let next : suc (8 * k + shift) ≡ 8 * k + suc shift = omega arith in
      let low = bit_inside shift (omega arith) in
      let high = bits_inside count (suc shift) (omega arith) in
      let up : byte / 2 ^ shift / 2 ^ 1 ≡ byte / 2 ^ suc shift = shr-shr byte shift 1 ∙ rw add-one in
      let whole : byte / 2 ^ shift % 2 ^ suc count ≡ byte / 2 ^ shift / 2 ^ 1 % 2 ^ count * 2 ^ 1 + byte / 2 ^ shift % 2 ^ 1 =
      rw add-one at (mod-pow-add (byte / 2 ^ shift) count 1) in
      rw (low, next, high, whole, up) (omega arith)

-- a byte that is one pixel
pub whole_byte : (byte place : ℕ) → byte < 256 → byte ≡ pixel_in 8 byte place
whole_byte byte place small =
    let first : place * 8 % 8 ≡ 0 = omega arith in
    rw first (omega arith)

-- at a depth of 2^depth bits, 2^(3 - depth) pixels fill a byte, and no other number does
module _ (depth : ℕ) (d : depth < 4) where
  pub filled : 2 ^ (3 - depth) * 2 ^ depth ≡ 8
  filled =
      let whole : 3 - depth + depth ≡ 3 = omega arith in
      rw (← pow-add, whole)

  module _ (per : ℕ) (whole : per * 2 ^ depth ≡ 8) where
    power : per ≡ 2 ^ (3 - depth)
    power =
        sym (mul-div_cancel per (pow_pos depth)) ∙ ap (λ (n : ℕ). n / 2 ^ depth) (whole ∙ sym filled) ∙ mul-div_cancel (2 ^ (3 - depth)) (pow_pos depth)

    -- so a pixel's number in its byte is a mask of its place
    pub number_masked : (place : ℕ) → bit_and place (per - 1) ≡ place % per
    number_masked place =
        ap (λ (n : ℕ). bit_and place (n - 1)) power ∙ and_mask place (3 - depth) ∙ ap (λ (n : ℕ). place % n) (sym power)

factor_positive : (a b : ℕ) → a * b ≡ 8 → 0 < a
factor_positive zero b e = absurd (omega (arith, zero-mul b))
factor_positive (suc a) b e = omega arith

-- `per` pixels of `bits` bits fill a byte
module _ (per bits : ℕ) (whole : per * bits ≡ 8) where
  pub per_positive : 0 < per
  per_positive = factor_positive per bits whole

  bits_positive : 0 < bits
  bits_positive = factor_positive bits per (mul_comm bits per ∙ whole)

  module _ (place : ℕ) where
    pub number_small : place % per < 8
    number_small = omega (arith, mod-lt place per_positive, le-mul_of_pos_right per bits_positive)

    -- where a pixel starts, by its byte and its number there
    starts : place * bits ≡ 8 * (place / per) + place % per * bits
    starts =
        ap (λ (n : ℕ). n * bits) (sym (div-add-mod place per)) ∙ add-mul (per * (place / per)) (place % per) bits
        ∙ ap (λ (n : ℕ). n + place % per * bits) (mul_right_comm per (place / per) bits ∙ ap (λ (n : ℕ). n * (place / per)) whole)

    -- it ends inside that byte
    ends : place % per * bits + bits ≤ 8
    ends = omega (arith, suc-mul (place % per) bits, mul-le-mul_right {m = suc (place % per)} {n = per} bits (mod-lt place per_positive))

    -- its byte, and where it stands there, by its bits alone
    pub byte_by : place / per ≡ place * bits / 8
    byte_by = omega (arith, starts, ends, bits_positive)

    pub shift_by : place % per * bits ≡ place * bits % 8
    shift_by = omega (arith, starts, ends, bits_positive)

    pub pixel_inside : (memory : List ℕ) → pixel_at bits memory place ≡ get_or memory (place / per) 0 / 2 ^ (place % per * bits) % 2 ^ bits
    pixel_inside memory = rw starts (bits_inside memory (place / per) bits (place % per * bits) ends)

    -- it ends beyond the memory exactly when its byte does
    pub byte_beyond : (memory : List ℕ) → leb (length memory) (place / per) ≡ ends_beyond bits memory place
    byte_beyond memory = go (leb (length memory) (place / per)) refl
      where
        after : (place + 1) * bits ≡ 8 * (place / per) + place % per * bits + bits
        after = add-mul place 1 bits ∙ omega (arith, starts, one-mul bits)

        go : (t : Bool) → leb (length memory) (place / per) ≡ t → t ≡ ends_beyond bits memory place
        go true e = sym (lt-ltb (8 * length memory) ((place + 1) * bits) (omega (arith, leb-true (length memory) (place / per) e, after, bits_positive)))
        go false e = sym (le-ltb (8 * length memory) ((place + 1) * bits) (omega (arith, leb-false (length memory) (place / per) e, after, ends)))
