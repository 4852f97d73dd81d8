-- `station::station_sheet_field` meets its contract: what `sheet` answers, put into one number. Assumes nothing.
use Rattle.station.proofs.station_sheet_field.Goals as goal

pub returns : goal.returns
returns c = record { number = rw (c.numbered.ensures.number, c.field-answer.ensures.answer) }
