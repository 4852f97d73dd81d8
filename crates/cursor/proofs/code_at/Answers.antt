-- `cursor::code_at` meets its contract: a shift by two bits a column. Assumes nothing.
use Rattle.cursor.proofs.Cases.{four_power}
use Rattle.cursor.proofs.code_at.Goals as goal

pub returns : goal.returns
returns c = record { code = rw four_power }
