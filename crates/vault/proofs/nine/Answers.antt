-- `vault::nine` meets its contract, byte by byte. Assumes nothing.
use lib.Dec.{lit<}
use Rattle.vault.proofs.nine.Goals as goal

pub bounds-words-0 : goal.bounds-words-0
bounds-words-0 c = lit< tt

pub bounds-words-1 : goal.bounds-words-1
bounds-words-1 c = lit< tt

pub bounds-words-2 : goal.bounds-words-2
bounds-words-2 c = lit< tt

pub returns : goal.returns
returns c = record { bytes = rw (c.blue_byte-3.ensures.byte, c.green_byte-3.ensures.byte, c.red_byte-3.ensures.byte, c.blue_byte-2.ensures.byte, c.green_byte-2.ensures.byte, c.red_byte-2.ensures.byte, c.blue_byte.ensures.byte, c.green_byte.ensures.byte, c.red_byte.ensures.byte) }
