-- `lines::is_vdisplay` meets its contract: the last period by the half lines before it.
use mathlib.Core.Bool.{false}
use mathlib.Core.List.{List}
use mathlib.Core.Path.{◌≡◌, refl, ◌∙◌}
use Prim.Native.Nat.{ℕ}
use Rattle.units.specs.Parameters.{screen_of, in_field}
use Rattle.lines.proofs.Moments.{in_vdisplay}
use Rattle.lines.proofs.is_vdisplay.Goals as goal

-- the screen that is read is its own first field
first : (params : List ℕ) → in_field false (screen_of params false) ≡ screen_of params false
unfolding screen_of
first params = refl

pub returns : goal.returns
returns c =
    let f = c.of-f.result in
    record { test = rw f.ends_are (in_vdisplay f.s c.args.half ∙ rw (c.of-f.ensures.screen, first)) }
