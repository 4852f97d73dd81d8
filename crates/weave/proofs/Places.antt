-- A byte's row and column in the file. Assumes nothing.
use Prim.Native.Nat.{ℕ, ◌+◌, ◌*◌, ◌/◌, ◌%◌, ◌<◌}
use mathlib.Core.List.{List}
use mathlib.Core.Path.{◌≡◌}
use native.Mathlib.Nat.{mul-add-div_right, mul-add-mod_self_right, div-eq_of_lt, mod-eq_of_lt, add-zero}
use native.Mathlib.Omega.{arith}
use Rattle.weave.specs.declared.Weave.{Weave}
use Rattle.weave.specs.Weave.{channel_at, byte_at, byte_of}

module _ (width row column : ℕ) (inside : column < width) where
  pub row_of : (row * width + column) / width ≡ row
  row_of = rw (mul-add-div_right {m = width} (omega arith) row column, div-eq_of_lt inside) (add-zero row)

  pub column_of : (row * width + column) % width ≡ column
  column_of = rw (mul-add-mod_self_right row width column) (mod-eq_of_lt inside)

-- a byte of the file, by its place and channel
pub byte_at_lem : (w : Weave) (picture : List ℕ) (row column channel : ℕ) → column < w.width → channel < 3 → byte_at w picture (byte_of w row column channel) ≡ channel_at w picture row column channel
unfolding byte_at
byte_at_lem w picture row column channel inside c =
    let pixel : byte_of w row column channel / 3 ≡ row * w.width + column = omega arith in
    let rest : byte_of w row column channel % 3 ≡ channel = omega arith in
    rw (pixel, rest, row_of w.width row column inside, column_of w.width row column inside)
