-- `sheet::sheet_refusal` meets its contract. The loop keeps: the refusal of the fields left is the sheet's. Assumes nothing.
use native.Mathlib.Omega.{arith}
use Rattle.sheet.proofs.Cases.{refused, passed, judged_all}
use Rattle.sheet.proofs.sheet_refusal.Goals as goal

pub returns-then-field-ne0 : goal.returns-then-field-ne0
returns-then-field-ne0 c = record { refusal = refused _ c.loop-i.i _ (omega arith) c.loop-i.invariant _ c.refusal_at-field.ensures.refusal c.if-field-ne0.true }

pub loop-i-preserved : goal.loop-i-preserved
loop-i-preserved c = passed _ c.loop-i.i _ (omega arith) c.loop-i.invariant _ c.refusal_at-field.ensures.refusal c.if-field-ne0.false

pub returns : goal.returns
returns c = record { refusal = rw (c.choose.ensures.chosen, c.left_from-over.ensures.left) (judged_all _ c.loop-i.i _ (omega arith) c.loop-i.invariant) }
