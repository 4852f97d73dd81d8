-- `audiogram::four_at` meets its contract. Assumes nothing.
use Rattle.audiogram.proofs.Cases.{four_found}
use Rattle.audiogram.proofs.Places.{holds_in, pixel_in}
use Rattle.audiogram.proofs.four_at.Goals as goal

pub returns-clause-first : goal.returns-clause-first
returns-clause-first c =
    let a = c.args in
    let spot = c.spot_at-spot.ensures.spot in
    let past = c.saturating_sub-past.ensures in
    four_found a.interlaced a.i _ _ _ c.then_some.ensures (rw (c.choose.ensures.chosen, past) (holds_in a.interlaced a.i _ _ spot.0 spot.1)) (rw (c.choose-2.ensures.chosen, past) (pixel_in a.interlaced a.i _ _ spot.0 spot.1))
