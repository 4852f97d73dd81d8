-- `questions::find` meets its contract.
use native.Mathlib.Omega.{arith}
use Rattle.questions.proofs.Cases.{find_read, find_nine, find_sheet, find_field, find_compare}
use Rattle.questions.proofs.find.Goals as goal

pub returns-in-1 : goal.returns-in-1
returns-in-1 c =
    let e = find_read c.args.c c.args.m c.in-1.is in
    let q = c.read.ensures in
    record { refusal = rw e.0 q.refusal; place = rw e.1 q.place; bytes = rw e.1 q.bytes }

pub returns-in-8 : goal.returns-in-8
returns-in-8 c =
    let e = find_nine c.args.c c.args.m (λ h. omega (arith, h, c.in-8.is)) c.in-8.is in
    let q = c.nine.ensures in
    record { refusal = rw e.0 q.refusal; place = rw e.1 q.place; bytes = rw e.1 q.bytes }

pub returns-in-9 : goal.returns-in-9
returns-in-9 c =
    let is = c.in-9.is in
    let e = find_sheet c.args.c c.args.m (λ h. omega (arith, h, is)) (λ h. omega (arith, h, is)) is in
    let q = c.sheet.ensures in
    record { refusal = rw e.0 q.refusal; place = rw e.1 q.place; bytes = rw e.1 q.bytes }

pub returns-in-10 : goal.returns-in-10
returns-in-10 c =
    let is = c.in-10.is in
    let e = find_field c.args.c c.args.m (λ h. omega (arith, h, is)) (λ h. omega (arith, h, is)) (λ h. omega (arith, h, is)) is in
    let q = c.field.ensures in
    record { refusal = rw e.0 q.refusal; place = rw e.1 q.place; bytes = rw e.1 q.bytes }

pub returns-in_default : goal.returns-in_default
returns-in_default c =
    let e = find_compare c.args.c c.args.m (λ h. omega (arith, h, c.in_default)) (λ h. omega (arith, h, c.in_default)) (λ h. omega (arith, h, c.in_default)) (λ h. omega (arith, h, c.in_default)) in
    let q = c.compare.ensures in
    record { refusal = rw e.0 q.refusal; place = rw e.1 q.place; bytes = rw e.1 q.bytes }
