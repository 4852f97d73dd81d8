-- `lines::screen_in` meets its contract: registers fit 32 bits.
use Prim.Native.Nat.{ℕ}
use mathlib.Core.Path.{◌≡◌, ap, ◌∙◌}
use mir.Syntax.{w32}
use mir.Val.{Fits}
use borrow.Author.Rules.{rules}
use lib.ListN.{get_or}
use Rattle.units.specs.Parameters.{screen_of, in_field}
use Rattle.lines.proofs.Moments.{narrow}
use Rattle.lines.proofs.screen_in.Goals as goal
use Rattle.lines.proofs.screen_in.Goals.{Start}

fits : (start : Start) (i : ℕ) → Fits w32 (get_or start.args.params i 0)
fits start i = search rules

pub returns : goal.returns
returns c =
    let start = c.before.before in
    let a = c.args in
    let screen : c.in_field.result ≡ in_field a.second (screen_of a.params a.interlaced) = c.in_field.ensures.screen ∙ ap (in_field a.second) c.screen_of.ensures.screen in
    record { screen = screen; narrow = narrow a.params a.interlaced a.second (fits start) _ screen }
