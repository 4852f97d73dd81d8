-- The counts of a frame whose parameters fit 24 bits: each fits 64 bits. Assumes nothing.
use Prim.Native.Nat.{ℕ, ◌+◌, ◌-◌, ◌*◌, ◌/◌, ◌^◌, ◌≤◌, ◌<◌}
use mathlib.Core.Bool.{Bool, true, false, cond}
use mathlib.Core.Path.{◌≡◌, ◌∙◌}
use native.Mathlib.Nat.{mul-le-mul, div-le_self, div-lt_iff_lt-mul, le-div_iff_mul-le}
use Rattle.std.specs.Int.{div_ceil}
use Rattle.std.proofs.lemmas.Grind.{div_ceil_times}
use native.Mathlib.Omega.{arith}
use Rattle.units.specs.Parameters.{in_field, half_ticks, halves_in_field, field_ticks, displayed_lines}
use Rattle.lines.specs.Lines.{field_visible}
use Rattle.lines.proofs.Halves.{visible_most}
use Rattle.screen.specs.Limits.{Bounded}
use Rattle.screen.specs.Totals.{rounded_up, frame_visible}
use Rattle.units.specs.declared.Screen.{Screen}

module _ (s : Screen) (b : Bounded 0xFFFFFF s) where
  pub field_ticks_fit : field_ticks s < 2 ^ 50
  field_ticks_fit =
      let most = mul-le-mul {n₁ = half_ticks s} {m₁ = halves_in_field s} {n₂ = 0x7FFFFF} {m₂ = 5 * 0xFFFFFF} (omega arith) (omega arith) in
      omega arith

  lines_most : displayed_lines s ≤ 0xFFFFFF
  lines_most = go s.interlaced
    where
      go : (t : Bool) → cond t s.vdisplay.0 (s.vdisplay.0 / 2) ≤ 0xFFFFFF
      go true = omega arith
      go false = omega arith

  pub visible_fit : frame_visible s < 2 ^ 48
  visible_fit =
      let most = mul-le-mul {n₁ = s.display.0} {m₁ = displayed_lines s} {n₂ = 0xFFFFFF} {m₂ = 0xFFFFFF} (omega arith) lines_most in
      omega arith

  -- the visible ticks, from what the displayed lines are answered as
  pub visible_by : (n : ℕ) → n ≡ displayed_lines s → s.display.0 * n < 2 ^ 48
  visible_by n e = rw e visible_fit

  pub field_visible_fit : (f : Bool) → field_visible (in_field f s) < 2 ^ 49
  field_visible_fit f =
      let most = mul-le-mul {n₁ = s.vdisplay.0 + 1} {m₁ = s.display.0} {n₂ = 0x1000000} {m₂ = 0xFFFFFF} (omega arith) (omega arith) in
      omega (arith, visible_most (in_field f s))

-- a quotient rounded up, as the code divides
ceiling : (n d q : ℕ) → 0 < d → n ≤ q * d → q * d < n + d → q ≡ rounded_up n d
ceiling n d q some low high =
    let top : (n + (d - 1)) / d < q + 1 = (div-lt_iff_lt-mul {x = n + (d - 1)} {y = q + 1} some).1 (omega (arith, low)) in
    let bottom : q ≤ (n + (d - 1)) / d = (le-div_iff_mul-le {x = q} {y = n + (d - 1)} some).1 (omega (arith, high)) in
    omega (arith, top, bottom)

pub by_ceiling : (n d q : ℕ) → 0 < d → q ≡ div_ceil n d → q ≡ rounded_up n d
by_ceiling n d q some e = e ∙ ceiling n d (div_ceil n d) some (div_ceil_times n d some).0 (div_ceil_times n d some).1

pub ceiling_least : (n d q : ℕ) → q ≡ rounded_up n d → q ≤ n + (d - 1)
ceiling_least n d q e = omega (arith, e, div-le_self (n + (d - 1)) d)
