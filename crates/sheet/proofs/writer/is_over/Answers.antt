-- `sheet::writer::is_over` meets its contract: value by value. Assumes nothing.
use Prim.Native.Nat.{ℕ}
use mathlib.Core.List.{List, [], ◌∷◌}
use mathlib.Core.Path.{◌≡◌, refl, ◌∙◌}
use borrow.Author.Rules.{rules}
use lib.Dec.{ltb}
use Rattle.std.proofs.Common.{tests}
use Rattle.std.proofs.lemmas.Iterator.{YieldsList-from_slice}
use Rattle.std.proofs.lemmas.Iterator.Search.{any_from_yields_List}
use Rattle.std.specs.List.{list_any}
use Rattle.sheet.specs.Encoding.{over}
use Rattle.sheet.proofs.writer.is_over.Goals as goal

any_over : (values : List ℕ) → list_any (ltb 65535) values ≡ over values
unfolding over
any_over [] = refl
any_over (value ∷ values) = rw (any_over values)

pub returns : goal.returns
returns c =
    let values = c.args.values in
    record { over = any_from_yields_List (ltb 65535) _ _ c.any.result c.any.ensures.ran (YieldsList-from_slice values cc) (λ x b q k. search (rules, tests)) ∙ any_over values }
