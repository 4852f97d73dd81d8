-- `sheet::sheet_values` meets its contract. The loop keeps: the values so far, with those left stored behind them, are the sheet's. Assumes nothing.
use Prim.Native.Nat.{◌-◌, ◌≤◌, ◌*◌}
use mathlib.Core.Path.{◌≡◌}
use lib.ListN.{drop}
use lib.Seq.{sets}
use Rattle.sheet.specs.Encoding.{tags}
use Rattle.sheet.specs.Reader.{values_from}
use Rattle.sheet.proofs.sheet_values.Given as goal

abbrev pub invariant-loop-i : goal.invariant-loop-i
invariant-loop-i l = (sets l.values l.i (values_from (drop l.i tags) (drop (5 * l.i) l.sheet)) ≡ values_from tags l.sheet)
