-- `screen::totals::frame_totals` meets its contract: where no limit is broken, 24 bits bound every parameter.
use mathlib.Core.Bool.{Bool}
use mathlib.Core.List.{List}
use mathlib.Core.Path.{◌≡◌, refl, sym, ap, ◌∙◌}
use Prim.Native.Nat.{ℕ}
use Rattle.control.specs.Control.{interlaced}
use Rattle.units.specs.Parameters.{screen_of}
use Rattle.units.specs.declared.Screen.{Screen}
use Rattle.screen.specs.Limits.{limit_of}
use Rattle.screen.proofs.limits.Laws.{accepted, narrow}
use Rattle.screen.proofs.totals.Laws.{totals_counted, totals_refused}
use Rattle.screen.proofs.totals.frame_totals.Goals as goal
use Rattle.screen.proofs.totals.frame_totals.Goals.{After-limit-refusal}

-- the format that was asked for is the screen's
format : (params : List ℕ) (b : Bool) → (screen_of params b).interlaced ≡ b
unfolding screen_of
format params b = refl

-- the screen of the control word's format
module _ (c : After-limit-refusal) where
  screen : c.screen_of-s.result ≡ screen_of c.args.params (interlaced c.args.control)
  screen = c.screen_of-s.ensures.screen ∙ ap (screen_of c.args.params) c.is_interlaced-interlaced.ensures.bit

  limit_is : c.limit-refusal.result ≡ limit_of c.args.control (screen_of c.args.params (interlaced c.args.control))
  limit_is = c.limit-refusal.ensures.refusal ∙ ap (limit_of c.args.control) screen

pub count-requires : goal.count-requires
count-requires c =
    record {
      screen = screen c.before ∙ ap (screen_of c.args.params) (sym (ap (λ (s : Screen). s.interlaced) (screen c.before) ∙ format c.args.params (interlaced c.args.control)));
      bounded = rw (screen c.before) (narrow _ (accepted _ _ (sym (limit_is c.before) ∙ c.if-refusal-eq0.true)).bounded);
    }

pub returns-then-refusal-eq0 : goal.returns-then-refusal-eq0
returns-then-refusal-eq0 c = record { totals = c.count.ensures.totals ∙ rw (screen c.before.before) (totals_counted _ _ (sym (limit_is c.before.before) ∙ c.if-refusal-eq0.true)) }

pub returns : goal.returns
returns c = record { totals = totals_refused _ _ _ (limit_is c.before) c.if-refusal-eq0.false }
