-- `paperwork::store::stored_of` meets its contract: the sheet's values are its numbers past the first.
use mathlib.Core.Path.{refl}
use Rattle.paperwork.specs.Store.{stored_of}
use Rattle.paperwork.proofs.store.stored_of.Goals as goal

pub returns : goal.returns
unfolding stored_of
returns c =
    let w = c.written_into-refusal.ensures in
    record { room = refl; stored = rw (w.refusal, w.bytes, c.sheet_values-sheet.ensures.values) }
