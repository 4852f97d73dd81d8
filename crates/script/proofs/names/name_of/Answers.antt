-- `script::names::name_of` meets its contract. Assumes nothing.
use Rattle.std.proofs.Common.{rules, tests, ◌≡◌, ◌∙◌}
use Rattle.std.specs.Prelude.{unwrap_or}
use Rattle.std.specs.List.{position}
use Rattle.std.proofs.lemmas.Iterator.{YieldsList-from_slice}
use Rattle.std.proofs.lemmas.Iterator.Search.{position_from_yields_List}
use Rattle.std.proofs.lemmas.Iterator.Adapters.{position_from-zero}
use Rattle.script.specs.declared.names.TheConstants.{WORDS}
use Rattle.script.specs.Names.{name_of}
use Rattle.script.proofs.names.Cases.{answered, name_at, is_word}
use Rattle.script.proofs.names.name_of.Goals as goal

pub returns-clause-name : goal.returns-clause-name
returns-clause-name c =
    let found : c.position.result ≡ position (is_word (λ w. w.now) c.args.word.now) WORDS = position_from_yields_List (is_word (λ w. w.now) c.args.word.now) _ _ c.position.result c.position.ensures.ran (YieldsList-from_slice _ c.iter.ensures.rest) (λ x b q k. search (rules, tests)) in
    let named : unwrap_or c.position.result 13 ≡ name_of c.args.word.now = rw (found ∙ position_from-zero (is_word (λ w. w.now) c.args.word.now) WORDS) (name_at (λ w. w.now) c.args.word.now 0 WORDS) in
    answered c.position.result 13 _ c.map_or.ensures (λ k p. search (rules, tests)) ∙ named
