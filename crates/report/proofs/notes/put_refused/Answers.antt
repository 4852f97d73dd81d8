-- `report::notes::put_refused` meets its contract, in answers and in notes.
use Rattle.report.specs.Notes.{refused_texts}
use Rattle.room.proofs.Laying.{put_joined, put_one, put_some}
use Rattle.report.proofs.NoteCases.{refused_note}
use borrow.Author.Tests.{eq-eqb}
use Rattle.report.proofs.notes.put_refused.Goals as goal

pub returns-then-form-eq-ANSWERS : goal.returns-then-form-eq-ANSWERS
unfolding refused_texts
returns-then-form-eq-ANSWERS c =
    let p = c.put_count.ensures in
    let e = eq-eqb c.args.form 0 c.if-form-eq-ANSWERS.true in
    record { place = rw e p.place; bytes = rw e p.bytes }

pub returns : goal.returns
returns c =
    let p = c.put_head-named.ensures in
    let q = c.put-refused.ensures in
    let r = c.put_decimal-counted.ensures in
    let s = c.put_close.ensures in
    let a = c.args in
    let e = refused_note a.form a.line a.refusal c.if-form-eq-ANSWERS.false in
    let puts = put_joined (put_some _ _ _ _ _ p.place p.bytes) (put_joined (put_one _ _ _ _ _ q.place q.bytes) (put_joined (put_one _ _ _ _ _ r.place r.bytes) (put_one _ _ _ _ _ s.place s.bytes))) in
    record { place = rw e puts.place; bytes = rw e puts.bytes }
