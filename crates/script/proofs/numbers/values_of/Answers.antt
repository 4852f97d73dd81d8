-- `script::numbers::values_of` meets its contract: the words from the place reached on are those from k on.
use mathlib.Core.Path.{◌≡◌, refl}
use Rattle.script.proofs.numbers.Cases.{word_here, words_next, fault_next, values_next, fault_none, values_none, words_all}
use native.Mathlib.Omega.{arith}
use Rattle.script.proofs.numbers.values_of.Goals as goal

pub loop-k-init : goal.loop-k-init
loop-k-init c = (fault_none _ _, (values_none _ _, words_all _))

pub loop-k-preserved : goal.loop-k-preserved
loop-k-preserved c =
    let l = c.loop-k in
    let w = c.word_after-w.ensures in
    let rest = c.args.rest.now in
    let here = word_here rest l.at _ l.invariant.1.1 _ w.bytes in
    let u = c.unwrap_or.ensures in
    (fault_next _ _ _ _ _ here c.argument_of-n.ensures.number _ _ l.invariant.0 (rw c.fault_of.ensures.fault at c.choose-fault.ensures.chosen), (rw u (values_next _ _ _ _ _ here c.argument_of-n.ensures.number _ l.invariant.1.0), words_next rest l.at _ l.invariant.1.1 c.word_after-w.result.to w.left))

pub returns : goal.returns
returns c =
    let l = c.loop-k in
    let e : l.k ≡ c.args.count = omega arith in
    record { fault = rw e at l.invariant.0; count = refl; values = rw e at l.invariant.1.0 }
