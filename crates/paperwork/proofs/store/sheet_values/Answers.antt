-- `paperwork::store::sheet_values` meets its contract: fourteen of its numbers are copied.
use Rattle.paperwork.proofs.store.Cases.{fourteen}
use Rattle.paperwork.proofs.store.sheet_values.Goals as goal

pub returns : goal.returns
returns c = record { values = fourteen _ _ c.copy_from_slice.ensures.after c.copy_from_slice.ensures.len }
