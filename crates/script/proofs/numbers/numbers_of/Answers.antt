-- `script::numbers::numbers_of` meets its contract, by each way out of the count.
use mathlib.Core.Path.{ap}
use Rattle.script.specs.declared.numbers.Numbers.{Numbers}
use Rattle.script.proofs.numbers.Cases.{numbers_few, numbers_many, numbers_read}
use native.Mathlib.Omega.{arith}
use Rattle.script.proofs.numbers.numbers_of.Goals as goal

pub returns-then-count-least : goal.returns-then-count-least
returns-then-count-least c =
    let e = c.no_numbers.ensures.numbers in
    record { numbers = numbers_few _ _ _ _ _ _ c.count_words-count.ensures.count c.if-count-least.true e; bound = omega (arith, ap (λ (n : Numbers). n.count) e) }

pub returns-then-most-count : goal.returns-then-most-count
returns-then-most-count c =
    let e = c.no_numbers-then-most-count.ensures.numbers in
    record { numbers = numbers_many _ _ _ _ _ _ c.count_words-count.ensures.count c.if-count-least.false c.if-most-count.true e; bound = omega (arith, ap (λ (n : Numbers). n.count) e) }

pub returns : goal.returns
returns c =
    let v = c.values_of.ensures in
    record { numbers = numbers_read _ _ _ _ _ _ c.count_words-count.ensures.count c.if-count-least.false c.if-most-count.false v.fault v.count v.values; bound = omega arith }
