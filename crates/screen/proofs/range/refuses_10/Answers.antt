-- `screen::range::refuses_10` meets its contract: thirteen tests, in register order.
use mathlib.Core.Bool.{or_assoc, or-false}
use mathlib.Core.List.{List, [], ◌∷◌}
use mathlib.Core.Path.{◌∙◌}
use Prim.Native.Nat.{ℕ}
use borrow.Author.Rules.{rules}
use Rattle.std.proofs.Common.{tests}
use Rattle.std.proofs.lemmas.Iterator.{YieldsList-from_slice}
use Rattle.std.proofs.lemmas.Iterator.Search.{any_from_yields_List}
use Rattle.screen.specs.Range.{out_of_range}
use Rattle.screen.proofs.range.refuses_10.Goals as goal

pub returns : goal.returns
returns c =
    let s = c.args.s in
    let counts : List ℕ = s.halfsync.0 ∷ s.backporch.0 ∷ s.display.0 ∷ s.shortdisplay.0 ∷ s.broadpulse.0 ∷ s.vsync.0 ∷ s.vpreequalise.0 ∷ s.vpostequalise.0 ∷ s.vblank.0 ∷ s.vdisplay.0 ∷ s.linetime.0 ∷ s.meminit.0 ∷ s.transferdelay.0 ∷ [] in
    let found = any_from_yields_List out_of_range _ _ c.any.result c.any.ensures.ran (YieldsList-from_slice counts cc) (λ x b q k. search (rules, tests)) in
    record { refusal = found ∙ simp (or_assoc, or-false) }
