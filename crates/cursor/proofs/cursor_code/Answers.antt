-- `cursor::cursor_code` meets its contract: a row and a column within the cursor, or outside by one of the two. Assumes nothing.
use Rattle.cursor.proofs.Cases.{code_under, code_beside, code_above}
use Rattle.cursor.proofs.cursor_code.Goals as goal

pub returns-in-Some-Some-clause-code : goal.returns-in-Some-Some-clause-code
returns-in-Some-Some-clause-code c =
    let row = rw c.in-Some-Some.is-0 at c.number-row.ensures.number in
    let column = rw c.in-Some-Some.is-1 at c.number-column.ensures.number in
    code_under _ _ _ _ _ _ _ row column c.code_at.ensures.code

pub returns-in_default-clause-code : goal.returns-in_default-clause-code
returns-in_default-clause-code c = code_beside _ _ _ _ (rw c.in_default.is-1 at c.number-column.ensures.number)

pub returns-in_default-2-clause-code : goal.returns-in_default-2-clause-code
returns-in_default-2-clause-code c = code_above _ _ _ _ (rw c.in_default.is-0 at c.number-row.ensures.number)
