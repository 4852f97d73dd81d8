-- `script::numbers::takes_of` meets its contract: each field of a row stands in its own column.
use Rattle.script.proofs.numbers.Cases.{least_is, most_is, plain_is, size_is, most_bound}
use Rattle.script.proofs.numbers.takes_of.Goals as goal

pub returns-then-name-lt13 : goal.returns-then-name-lt13
returns-then-name-lt13 c =
    let name = c.args.name in
    record { least = least_is name; most = most_is name; bound = most_bound name c.if-name-lt13.true; plain = plain_is name; size = size_is name }
