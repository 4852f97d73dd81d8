-- `registers::map::high_place_of` meets its contract: the last five rows of the map, each a choice. Assumes nothing.
use Rattle.registers.proofs.map.high_place_of.Goals as goal

pub returns : goal.returns
returns c = record { place = rw (c.row.ensures.chosen, c.saturating_sub-4.ensures, c.row-checksum.ensures.chosen, c.saturating_sub-3.ensures, c.row-position.ensures.chosen, c.row-palette.ensures.chosen, c.saturating_sub-2.ensures, c.row-store.ensures.chosen, c.saturating_sub.ensures) }
