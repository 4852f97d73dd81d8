-- `screen::totals::field_transfers` meets its contract: the visible ticks of a field, over a row that is never 0.
use mathlib.Core.Path.{◌≡◌, ap, sym, ◌∙◌}
use native.Mathlib.Omega.{arith}
use Rattle.units.specs.Parameters.{in_field, row_length}
use Rattle.units.specs.declared.Screen.{Screen}
use Rattle.lines.specs.Lines.{field_visible}
use Rattle.screen.specs.Totals.{rounded_up}
use Rattle.screen.proofs.totals.Counts.{field_visible_fit, by_ceiling, ceiling_least}
use Rattle.screen.proofs.totals.field_transfers.Goals as goal

pub returns : goal.returns
returns c =
    let a = c.args in
    let visible : c.shown_in-shown.result.visible ≡ field_visible (in_field a.second a.s) = c.shown_in-shown.ensures.visible ∙ ap (λ (s : Screen). field_visible (in_field a.second s)) (sym c.requires.screen) in
    let transfers : c.div_ceil.result ≡ rounded_up (field_visible (in_field a.second a.s)) (row_length a.s) = by_ceiling _ _ _ (omega (arith, c.requires.bounded)) (rw visible at c.div_ceil.ensures) in
    record {
      transfers = transfers;
      bound = omega (arith, ceiling_least _ _ _ transfers, field_visible_fit a.s c.requires.bounded a.second, c.requires.bounded);
    }
