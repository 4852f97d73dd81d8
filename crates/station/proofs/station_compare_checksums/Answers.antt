-- `station::station_compare_checksums` meets its contract: what `vault` answers, put into one number. Assumes nothing.
use Rattle.station.proofs.station_compare_checksums.Goals as goal

pub returns : goal.returns
returns c = record { number = rw (c.numbered.ensures.number, c.choose.ensures.chosen, c.compare-compared.ensures.whole) }
