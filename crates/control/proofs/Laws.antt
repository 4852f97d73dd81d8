-- What callers know of control A's tables, each rule from one test over the whole table. Assumes nothing.
use Prim.Native.Nat.{ℕ, suc, ◌+◌, ◌*◌, ◌^◌, ◌≤◌, ◌<◌}
use mathlib.Core.Path.{◌≡◌}
use mathlib.Core.Bool.{Bool, true, false, cond}
use mathlib.Core.List.{List, [], ◌∷◌}
use native.Mathlib.Omega.{arith}
use lib.Dec.{leb, eqb, eqb→eq, leb→le}
use lib.ListN.{get_or}
use Rattle.base.proofs.Table.{entry}
use Rattle.control.specs.Control.{interlaced, depth, pixel_bits, shift_periods, shift_period, increments, interlaced_increments, offsets, increment_code, increment, offset, row_divisor, row_step}

-- a shift period, whatever the depth, shifts 16 bits for each of the four pixels of a unit
pub shift_period_rule : (control : ℕ) → shift_period control * pixel_bits control ≡ 16
shift_period_rule control =
    eqb→eq _ _ (entry (λ code period. eqb (period * 2 ^ code) 16) shift_periods tt (depth control) (omega arith))

-- a shift period is never 0
pub shift_period_positive : (control : ℕ) → 0 < shift_period control
shift_period_positive control = leb→le _ _ (entry (λ code period. leb 1 period) shift_periods tt (depth control) (omega arith))

-- the rules of the tables: code 0 is 1 and code k is 2^(k+7) where not interlaced; where interlaced the offset of 0 and 1 is 1, of a later code k
-- 2^(k+6), and the increment of 0 is 1 and of all others twice the offset
pub increments_rule : (code : ℕ) → code < 4 → get_or increments code 0 ≡ cond (eqb code 0) 1 (2 ^ (code + 7))
increments_rule code h = eqb→eq _ _ (entry (λ k value. eqb value (cond (eqb k 0) 1 (2 ^ (k + 7)))) increments tt code h)

pub offsets_rule : (code : ℕ) → code < 4 → get_or offsets code 0 ≡ cond (leb code 1) 1 (2 ^ (code + 6))
offsets_rule code h = eqb→eq _ _ (entry (λ k value. eqb value (cond (leb k 1) 1 (2 ^ (k + 6)))) offsets tt code h)

pub interlaced_increments_rule : (code : ℕ) → code < 4 → get_or interlaced_increments code 0 ≡ cond (eqb code 0) 1 2 * get_or offsets code 0
interlaced_increments_rule code h = eqb→eq _ _ (entry (λ k value. eqb value (cond (eqb k 0) 1 2 * get_or offsets k 0)) interlaced_increments tt code h)

-- the powers of two that the divisors are
abbrev pub increment_powers : List ℕ
increment_powers = 0 ∷ 8 ∷ 9 ∷ 10 ∷ []

abbrev pub offset_powers : List ℕ
offset_powers = 0 ∷ 0 ∷ 8 ∷ 9 ∷ []

pub increment_power_rule : (code : ℕ) → code < 4 → (2 ^ get_or increment_powers code 0 ≡ get_or increments code 0) × (get_or increment_powers code 0 < 32)
increment_power_rule code h = (
  eqb→eq _ _ (entry (λ k power. eqb (2 ^ power) (get_or increments k 0)) increment_powers tt code h),
  leb→le _ _ (entry (λ k power. leb (suc power) 32) increment_powers tt code h),
)

pub offset_power_rule : (code : ℕ) → code < 4 → (2 ^ get_or offset_powers code 0 ≡ get_or offsets code 0) × (get_or offset_powers code 0 < 32)
offset_power_rule code h = (
  eqb→eq _ _ (entry (λ k power. eqb (2 ^ power) (get_or offsets k 0)) offset_powers tt code h),
  leb→le _ _ (entry (λ k power. leb (suc power) 32) offset_powers tt code h),
)

-- a divisor by the format
pub divisor_interlaced : (control : ℕ) → interlaced control ≡ true → row_divisor control ≡ offset control
unfolding row_divisor
divisor_interlaced control e = simp e

pub divisor_plain : (control : ℕ) → interlaced control ≡ false → row_divisor control ≡ get_or increments (increment_code control) 0
unfolding row_divisor increment
divisor_plain control e = simp e

-- AN INCREMENT IS THAT MANY ROWS
pub increment_rows : (control : ℕ) → increment control ≡ row_step control * row_divisor control
unfolding increment row_divisor
increment_rows control = go (interlaced control)
  where
    go : (b : Bool) →
        cond b (get_or interlaced_increments (increment_code control) 0) (get_or increments (increment_code control) 0)
        ≡ cond b (cond (eqb (increment_code control) 0) 1 2) 1 * cond b (offset control) (cond b (get_or interlaced_increments (increment_code control) 0) (get_or increments (increment_code control) 0))
    go true = interlaced_increments_rule (increment_code control) (omega arith)
    go false = omega arith

-- a divisor is never 0, and no increment or offset goes past 1,024
some_increment : (code : ℕ) → code < 4 → 0 < get_or increments code 0
some_increment code h = leb→le _ _ (entry (λ k value. leb 1 value) increments tt code h)

pub offset_positive : (control : ℕ) → 0 < offset control
offset_positive control = leb→le _ _ (entry (λ code value. leb 1 value) offsets tt (increment_code control) (omega arith))

pub divisor_positive : (control : ℕ) → 0 < row_divisor control
unfolding row_divisor increment
divisor_positive control = go (interlaced control)
  where
    go : (b : Bool) → 0 < cond b (offset control) (cond b (get_or interlaced_increments (increment_code control) 0) (get_or increments (increment_code control) 0))
    go true = offset_positive control
    go false = some_increment (increment_code control) (omega arith)

pub increment_within : (control : ℕ) → (0 < increment control) × (increment control ≤ 1024)
unfolding increment
increment_within control = go (interlaced control)
  where
    go : (b : Bool) →
        (0 < cond b (get_or interlaced_increments (increment_code control) 0) (get_or increments (increment_code control) 0))
        × (cond b (get_or interlaced_increments (increment_code control) 0) (get_or increments (increment_code control) 0) ≤ 1024)
    go true = (leb→le _ _ (entry (λ k value. leb 1 value) interlaced_increments tt (increment_code control) (omega arith)), leb→le _ _ (entry (λ k value. leb value 1024) interlaced_increments tt (increment_code control) (omega arith)))
    go false = (leb→le _ _ (entry (λ k value. leb 1 value) increments tt (increment_code control) (omega arith)), leb→le _ _ (entry (λ k value. leb value 1024) increments tt (increment_code control) (omega arith)))
