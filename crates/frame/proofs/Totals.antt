-- The four totals of a screen are the counts of a frame's own ticks. Assumes nothing.
use mathlib.Core.List.{List}
use mathlib.Core.Path.{refl, ap, ◌∙◌}
use Prim.Native.Nat.{ℕ}
use lib.ListN.{length}
use Rattle.screen.specs.Totals.{frame_totals, totals_of}
use Rattle.screen.proofs.limits.Laws.{unrefused}
use Rattle.screen.proofs.totals.Laws.{totals_counted}
use Rattle.registers.specs.declared.Registers.{Registers}
use Rattle.generator.specs.Rows.{screen}
use Rattle.generator.specs.declared.Generator.{Generator}
use Rattle.frame.specs.Demand.{field_dot, Ready, Demand3, Counted}
use Rattle.frame.proofs.Demand.{demand_3, frame_pixels_lem}

module _ (r : Registers) (m : List ℕ) (g : Generator) (d : Ready r m g) where
  by_ticks : Demand3 r m g → Counted r m g (frame_totals (screen r))
  by_ticks e =
      record {
        refusal = refl;
        some = e.some;
        returns = e.returns;
        not_before = e.not_before;
        visible = e.visible;
        transfers = e.transfers;
        pixels = ap length e.dots ∙ frame_pixels_lem r (d.sound.accepted d.runs) (λ f. field_dot r f m);
      }

  -- THE TOTALS ARE COUNTED
  pub frame_totals_lem : Counted r m g (totals_of r.control r.params)
  frame_totals_lem =
      rw (← (totals_counted r.control r.params (unrefused r.control (screen r) (d.sound.accepted d.runs))))
      (by_ticks (demand_3 r m g d))
