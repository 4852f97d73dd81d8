-- A frame that is not interlaced: it is its first field, and demand 3 asks and says of it what one run of pixels can. Assumes nothing.
use Prim.Native.Nat.{ℕ, ◌+◌, ◌-◌, ◌*◌, ◌≤◌, ◌<◌}
use mathlib.Core.Bool.{Bool, true, false, true≢false}
use mathlib.Core.List.{List}
use mathlib.Core.Path.{◌≡◌, refl, sym, ap, ◌∙◌}
use native.Mathlib.Nat.{mul-le-mul_right}
use native.Mathlib.Omega.{arith}
use lib.ListN.{length}
use Rattle.control.specs.Control.{increment, pixel_bits}
use Rattle.units.specs.Parameters.{in_field}
use Rattle.screen.specs.Limits.{Accepted}
use Rattle.screen.specs.Totals.{frame_pixels, frame_transfers}
use Rattle.screen.proofs.limits.Laws.{accepted_in}
use Rattle.registers.specs.declared.Registers.{Registers}
use Rattle.generator.specs.Rows.{screen}
use Rattle.generator.proofs.VisibleBefore.{plain_visible}
use Rattle.frame.specs.Frame.{FieldOf, pixels_seen}
use Rattle.frame.specs.Demand.{first_address, transfers_seen, first_place, field_place}
use Rattle.frame.proofs.Places.{place_plain}

module _ (r : Registers) (ok : Accepted r.control (screen r)) (n : (screen r).interlaced ≡ false) where
  -- there is no second field
  no_second : {A : Type 0} → FieldOf r true → A
  no_second f = absurd (true≢false (sym (f refl) ∙ n))

  -- the first field's transfers and pixels are the frame's
  pub plain_transfers : transfers_seen r false ≡ frame_transfers (screen r)
  plain_transfers = simp n (omega arith)

  plain_pixels : pixels_seen r false ≡ frame_pixels (screen r)
  plain_pixels = ap (λ (k : ℕ). 4 * k) (plain_visible r.control (in_field false (screen r)) (accepted_in (screen r) false ok) n)

  -- where the last address does not roll over, none does
  pub plain_unrolled : r.top + (frame_transfers (screen r) - 1) * increment r.control ≤ 0xFFFFFF → (second : Bool) (j : ℕ) → FieldOf r second → j < transfers_seen r second → first_address r second + j * increment r.control ≤ 0xFFFFFF
  plain_unrolled h true j f l = no_second f
  plain_unrolled h false j f l =
      let below : j ≤ frame_transfers (screen r) - 1 = omega (arith, plain_transfers) in
      omega (arith, mul-le-mul_right (increment r.control) below)

  -- memory for the last pixel is memory for each
  pub plain_room : (m : List ℕ) → (first_place r + frame_pixels (screen r)) * pixel_bits r.control ≤ 8 * length m → (second : Bool) (i : ℕ) → FieldOf r second → i < pixels_seen r second → (field_place r second i + 1) * pixel_bits r.control ≤ 8 * length m
  plain_room m h true i f l = no_second f
  plain_room m h false i f l =
      let below : field_place r false i + 1 ≤ first_place r + frame_pixels (screen r) = omega (arith, place_plain r ok n i, plain_pixels) in
      omega (arith, mul-le-mul_right (pixel_bits r.control) below)
