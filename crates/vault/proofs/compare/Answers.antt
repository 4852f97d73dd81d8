-- `vault::compare` meets its contract. The loop keeps: what was found, and what is still to be found, is the whole. Assumes nothing.
use mathlib.Core.Bool.{true}
use mathlib.Core.Path.{◌≡◌, sym, ◌∙◌}
use borrow.Author.Rules.{rules}
use native.Mathlib.Omega.{arith}
use lib.ListN.{length}
use Rattle.std.proofs.Common.{inl, inr}
use Rattle.vault.specs.Compare.{nine_long}
use Rattle.vault.proofs.Cases.{same_long, looked, as_many, finished}
use Rattle.vault.proofs.compare.Goals as goal

pub loop-x-init : goal.loop-x-init
loop-x-init c =
    let nine : nine_long c.args.a.now c.args.b.now ≡ true = sym c.are_nine_long.ensures.test ∙ c.if-not-are_nine_long.false in
    let long = same_long c.args.a.now c.args.b.now nine in
    (search rules, search rules)

pub loop-x-preserved : goal.loop-x-preserved
loop-x-preserved c =
    let step = c.in-Some.ensures.steps in
    (as_many _ _ _ _ _ _ step.0 step.1 c.loop-x.invariant.0, looked _ _ _ _ _ _ step.0 step.1 _ _ c.loop-x.invariant.1)

pub returns : goal.returns
returns c =
    let loop = c.loop-x in
    let none : length loop.x-iterator.a.rest.now ≡ 0 = elim c.in-None.ensures.steps [ inl p ↦ p.1.0 | inr p ↦ omega (arith, p.1.0, loop.invariant.0) ] in
    let done = finished _ _ loop.equal _ none (omega (arith, none, loop.invariant.0)) loop.invariant.1 in
    let nine : nine_long c.args.a.now c.args.b.now ≡ true = sym c.are_nine_long.ensures.test ∙ c.if-not-are_nine_long.false in
    record { whole = rw (nine, done) }
