-- `words::number::digits_number` meets its contract: a digit that makes the value too large makes the number so.
use native.Mathlib.Omega.{arith}
use Rattle.std.proofs.lemmas.Grind.{common_steps}
use Rattle.std.proofs.lemmas.Result.{err_from_is_err_and}
use Rattle.words.specs.Numbers.{digits_number}
use Rattle.words.proofs.number.Digits.{digits}
use Rattle.words.proofs.number.digits_number.Goals as goal

pub returns-in_err-value : goal.returns-in_err-value
unfolding digits_number
returns-in_err-value c =
    let gone = err_from_is_err_and c.from_residual.result c.from_residual.ensures.1 in
    let fault = c.in_err-value.ensures.more in
    record { number = rw (gone.1, gone.2) (grind (arith, common_steps, digits)) }
