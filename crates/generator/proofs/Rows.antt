-- The top that a field starts at, a row's number by its divisor, and its length. Assumes nothing.
use Prim.Native.Nat.{ℕ, ◌+◌, ◌*◌, ◌^◌, ◌≤◌, ◌<◌}
use mathlib.Core.Bool.{Bool, true, false}
use mathlib.Core.Path.{◌≡◌}
use native.Mathlib.Nat.{add-mul-div_right, mul_assoc}
use native.Mathlib.Omega.{arith}
use Rattle.control.specs.Control.{increment, row_divisor, row_step}
use Rattle.control.proofs.Laws.{increment_rows, divisor_positive}
use Rattle.units.specs.Parameters.{row_length}
use Rattle.units.specs.declared.Screen.{Screen}
use Rattle.screen.specs.Limits.{Bounded}
use Rattle.registers.specs.File.{InWidths}
use Rattle.registers.specs.declared.Registers.{Registers}
use Rattle.generator.specs.Rows.{top_used, row_number}

module _ (r : Registers) where
  -- the top used is an address of 24 bits
  pub top_used_in : InWidths r → (second : Bool) → top_used r second ≤ 0xFFFFFF
  unfolding top_used
  top_used_in h false = h.top
  top_used_in h true = omega arith

  -- each increment is one row further, or two where interlaced
  pub row_number_on : (address j : ℕ) → row_number r (address + j * increment r.control) ≡ row_number r address + j * row_step r.control
  row_number_on address j =
      rw (increment_rows r.control, ← (mul_assoc j (row_step r.control) (row_divisor r.control)))
      (add-mul-div_right address (j * row_step r.control) (divisor_positive r.control))

-- the row of a screen that 24 bits bound
pub row_some : (s : Screen) → Bounded 0xFFFFFF s → 0 < row_length s
row_some s b = omega arith

pub row_most : (s : Screen) → Bounded 0xFFFFFF s → row_length s ≤ 2 ^ 26
row_most s b = omega arith
