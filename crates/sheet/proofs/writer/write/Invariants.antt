-- `sheet::writer::write` meets its contract. The loop keeps: the room, with the fields left stored behind those that stand, is the whole. Assumes nothing.
use Prim.Native.Nat.{◌*◌}
use mathlib.Core.Path.{◌≡◌}
use lib.ListN.{drop}
use lib.Seq.{sets}
use Rattle.sheet.specs.Encoding.{tags, fields, encoding}
use Rattle.sheet.proofs.writer.write.Given as goal

abbrev pub invariant-loop-i : goal.invariant-loop-i
invariant-loop-i l = sets l.room (5 * l.i) (fields (drop l.i tags) (drop l.i l.values)) ≡ sets l.initial.room 0 (encoding l.values)
