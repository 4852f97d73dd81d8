-- What callers know of a screen's totals: those of one that is refused, and of one that is not. Assumes nothing.
use Prim.Native.Nat.{ℕ}
use mathlib.Core.List.{List}
use mathlib.Core.Path.{◌≡◌, ap, ◌∙◌}
use borrow.Author.Tests.{eq-eqb, ne_eqb}
use Rattle.control.specs.Control.{interlaced}
use Rattle.units.specs.Parameters.{screen_of}
use Rattle.screen.specs.Limits.{limit_of}
use Rattle.screen.specs.Totals.{frame_totals, refused, totals_of}

module _ (control : ℕ) (params : List ℕ) where
  -- the totals of a screen that is refused, and of one that is not
  pub totals_refused : (n : ℕ) → n ≡ limit_of control (screen_of params (interlaced control)) → (n ≡ 0 → ⊥) → refused n ≡ totals_of control params
  unfolding totals_of
  totals_refused n e bad = simp (ne_eqb (limit_of control (screen_of params (interlaced control))) 0 (λ z. bad (e ∙ z))) (ap refused e)

  pub totals_counted : limit_of control (screen_of params (interlaced control)) ≡ 0 → frame_totals (screen_of params (interlaced control)) ≡ totals_of control params
  unfolding totals_of
  totals_counted e = simp (eq-eqb (limit_of control (screen_of params (interlaced control))) 0 e)
