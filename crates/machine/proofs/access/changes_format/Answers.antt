-- `machine::access::changes_format` meets its contract.
use mathlib.Core.Bool.{xor}
use Rattle.machine.proofs.access.changes_format.Goals as goal

pub returns : goal.returns
unfolding xor
returns c = record { test = rw (c.is_running-2.ensures.bit, c.is_running.ensures.bit, c.is_interlaced-2.ensures.bit, c.is_interlaced.ensures.bit) }
