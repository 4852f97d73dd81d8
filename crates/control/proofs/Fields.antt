-- A field of a word, as the code reads it: shifted down and masked. Assumes nothing.
use Prim.Native.Nat.{ℕ, ◌-◌, ◌/◌, ◌^◌}
use mathlib.Core.Path.{◌≡◌}
use lib.Bits.{bit_and, and_mask}
use Rattle.control.specs.Control.{field}

pub field_masked : (low word count : ℕ) → bit_and (word / 2 ^ low) (2 ^ count - 1) ≡ field low count word
field_masked low word count = and_mask (word / 2 ^ low) count
