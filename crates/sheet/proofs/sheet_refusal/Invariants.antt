-- `sheet::sheet_refusal` meets its contract. The loop keeps: the refusal of the fields left is the sheet's. Assumes nothing.
use Prim.Native.Nat.{◌*◌}
use mathlib.Core.Path.{◌≡◌}
use lib.ListN.{drop}
use Rattle.sheet.specs.Encoding.{tags}
use Rattle.sheet.specs.Reader.{refusal_from}
use Rattle.sheet.proofs.sheet_refusal.Given as goal

abbrev pub invariant-loop-i : goal.invariant-loop-i
invariant-loop-i l = refusal_from (drop l.i tags) (drop (5 * l.i) l.sheet) ≡ refusal_from tags l.sheet
