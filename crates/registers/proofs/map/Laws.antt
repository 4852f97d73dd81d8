-- What callers know of the map, for every place. Assumes nothing.
use Prim.Native.Nat.{ℕ}
use mathlib.Core.Path.{◌≡◌, sym, ap, ◌∙◌}
use mathlib.Core.Bool.{true, false}
use borrow.Author.Tests.{eqb-true}
use Rattle.registers.specs.declared.map.Place.{Place}
use Rattle.registers.specs.declared.map.Place.TheVariants.{Control}
use Rattle.registers.specs.Map.{place_of, row_of, is_parameter, is_control, is_reserved}
use Rattle.registers.proofs.map.Cases.{placed, found}

-- no two addresses of the map have one place
pub address_single : (a b : ℕ) → place_of a ≡ place_of b → is_reserved (place_of a) ≡ false → a ≡ b
address_single a b e t = cc ((found a t).address, (found b (ap is_reserved (sym e) ∙ t)).address)

-- control A is one place, and no parameter
pub is_control_lem : (p : Place) → is_control p ≡ true → p ≡ Control
is_control_lem p e = let i = eqb-true (row_of p) 2 e in cc (placed p)

pub control_open : (p : Place) → is_control p ≡ true → is_parameter p ≡ false
control_open p e = ap is_parameter (is_control_lem p e)
