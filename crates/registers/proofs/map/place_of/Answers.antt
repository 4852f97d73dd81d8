-- `registers::map::place_of` meets its contract: the first four rows of the map, each a choice, and then the others. Assumes nothing.
use Rattle.registers.specs.Map.{place_of}
use Rattle.registers.proofs.map.place_of.Goals as goal

pub returns : goal.returns
unfolding place_of
returns c = record { place = rw (c.row.ensures.chosen, c.saturating_sub.ensures, c.row-mask.ensures.chosen, c.row-control.ensures.chosen, c.row-top.ensures.chosen, c.high_place_of.ensures.place) }
