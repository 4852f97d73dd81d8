-- `pixel::Sums::with_four` meets its contract: a channel's four bytes at once.
use Rattle.std.proofs.Common.{◌≡◌, length, rules}
use Rattle.pixel.proofs.Laws.{four_by}
use Rattle.pixel.proofs.Sums.with_four.Goals as goal

pub returns : goal.returns
returns c =
    let long : length c.args.four ≡ 4 = search rules in
    record { sums = rw (c.rolled_sum-3.ensures.rolled, c.rolled_sum-2.ensures.rolled, c.rolled_sum.ensures.rolled) (four_by c.args.self c.args.four long _ _ (rw (c.red_and_blue-4.ensures.word, c.red_and_blue-3.ensures.word, c.red_and_blue-2.ensures.word, c.red_and_blue.ensures.word)) (rw (c.green_alone-4.ensures.word, c.green_alone-3.ensures.word, c.green_alone-2.ensures.word, c.green_alone.ensures.word))) }
