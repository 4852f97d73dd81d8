-- `script::numbers::argument_of` meets its contract, by each way out.
use mathlib.Core.Path.{sym}
use Rattle.std.proofs.lemmas.Result.{err_from_is_err_and}
use Rattle.script.proofs.numbers.Cases.{argument_bad, argument_large, argument_plain}
use Rattle.script.proofs.numbers.argument_of.Goals as goal

pub returns-in_err-n : goal.returns-in_err-n
returns-in_err-n c =
    let p = err_from_is_err_and c.from_residual.result c.from_residual.ensures.1 in
    record { number = rw (p.1, p.2) (argument_bad _ _ _ _ (sym c.in_err-n.ensures.number)) }

pub returns-then-plain-k : goal.returns-then-plain-k
returns-then-plain-k c = record { number = argument_large _ _ _ _ (sym c.in_ok-n.ensures.number) c.if-plain-k.true }

pub returns : goal.returns
returns c = record { number = argument_plain _ _ _ _ (sym c.in_ok-n.ensures.number) c.if-plain-k.false }
