-- `sheet::writer::write` meets its contract. The loop keeps: the room, with the fields left stored behind those that stand, is the whole. Assumes nothing.
use mathlib.Core.Path.{refl, ◌∙◌, sym}
use native.Mathlib.Omega.{arith}
use Rattle.sheet.proofs.writer.Cases.{stored, full, left_alone}
use Rattle.sheet.proofs.writer.Laws.{within, taken}
use Rattle.sheet.proofs.writer.write.Goals as goal

pub loop-i-init : goal.loop-i-init
loop-i-init c = refl

pub put_field-requires : goal.put_field-requires
put_field-requires c =
    let a = c.args in
    let fits = taken a.values a.room.now (sym c.write_refusal-refusal.ensures.refusal ∙ c.if-refusal-eq0.true) in
    record { fits = (omega (arith, fits.1, c.loop-i.auto.room), omega (arith, within a.values fits.0 c.loop-i.i)) }

pub loop-i-preserved : goal.loop-i-preserved
loop-i-preserved c = rw (c.put_field.ensures.bytes, c.tag_of.ensures.tag) (stored _ _ _ c.loop-i.i (omega arith) (omega arith) c.loop-i.invariant)

pub returns-after-loop-i : goal.returns-after-loop-i
returns-after-loop-i c =
    let asked = c.write_refusal-refusal.ensures.refusal in
    record { refusal = asked; bytes = full _ _ _ c.loop-i.i (omega arith) (omega arith) (sym asked ∙ c.if-refusal-eq0.true) c.loop-i.invariant }

pub returns-else-refusal-eq0 : goal.returns-else-refusal-eq0
returns-else-refusal-eq0 c =
    let asked = c.write_refusal-refusal.ensures.refusal in
    record { refusal = asked; bytes = left_alone _ _ _ asked c.if-refusal-eq0.false }
