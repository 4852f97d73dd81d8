-- `screen::totals::count` meets its contract: each count fits 64 bits, because 24 bits bound every parameter.
use Prim.Native.Nat.{◌^◌, ◌<◌}
use native.Mathlib.Nat.{mul-le-mul}
use native.Mathlib.Omega.{arith}
use Rattle.screen.proofs.totals.Counts.{field_ticks_fit}
use Rattle.screen.proofs.totals.count.Goals as goal

pub overflow_mul-ticks : goal.overflow_mul-ticks
overflow_mul-ticks c =
    let field : c.units_of-field.result.0 < 2 ^ 50 = rw (c.units_of-field.ensures.units, c.halves_in_field.ensures.halves) (field_ticks_fit c.args.s c.requires.bounded) in
    let most = mul-le-mul {n₁ = c.fields.result} {m₁ = c.units_of-field.result.0} {n₂ = 2} {m₂ = 2 ^ 50} (omega (arith, c.fields.ensures.bound)) (omega (arith, field)) in
    omega (arith, most)
