-- `scribe::settings::put_rows` meets its contract: each turn puts the texts of one row more.
use borrow.Author.Rules.{rules}
use Rattle.room.proofs.Laying.{put_some, some_next}
use Rattle.scribe.proofs.settings.put_rows.Goals as goal

pub loop-address-preserved : goal.loop-address-preserved
loop-address-preserved c =
    let l = c.loop-address in
    let p = c.put_write-end.ensures in
    (search rules, some_next _ _ _ l.address-index _ _ _ _ l.invariant.1 (put_some _ _ _ _ _ p.place p.bytes))
