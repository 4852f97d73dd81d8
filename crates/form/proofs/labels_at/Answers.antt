-- `form::labels_at` meets its contract: each part of the picture by its test over the table. Assumes nothing.
use native.Mathlib.Omega.{arith}
use Rattle.form.proofs.Missed.{part}
use Rattle.form.proofs.labels_at.Goals as goal

pub returns-then-p-ge540 : goal.returns-then-p-ge540
returns-then-p-ge540 c =
    let labels = part _ _ _ 540 65536 0 65536 tt (omega arith) (omega arith) (omega arith) (omega arith) (omega arith) (omega arith) in
    record { bound = labels.0; before = labels.1.0; after = labels.1.1 }

pub returns-then-p-lt36 : goal.returns-then-p-lt36
returns-then-p-lt36 c =
    let labels = part _ _ _ 0 540 0 36 tt (omega arith) (omega arith) (omega arith) (omega arith) (omega arith) (omega arith) in
    record { bound = labels.0; before = labels.1.0; after = labels.1.1 }

pub returns-then-p-lt80 : goal.returns-then-p-lt80
returns-then-p-lt80 c =
    let labels = part _ _ _ 0 80 36 65536 tt (omega arith) (omega arith) (omega arith) (omega arith) (omega arith) (omega arith) in
    record { bound = labels.0; before = labels.1.0; after = labels.1.1 }

pub returns : goal.returns
returns c =
    let labels = part _ _ _ 80 540 36 65536 tt (omega arith) (omega arith) (omega arith) (omega arith) (omega arith) (omega arith) in
    record { bound = labels.0; before = labels.1.0; after = labels.1.1 }
