-- The bytes of a text. Assumes nothing.
use Rattle.std.specs.Prelude.{ℕ, List}
use Prim.Native.String.{String, [], ◌∷◌}
use Prim.Native.Char.{code}
use mathlib.Core.List as L

abbrev pub ascii : String → List ℕ
ascii [] = L.[]
ascii (c ∷ rest) = L.◌∷◌ (code c) (ascii rest)
