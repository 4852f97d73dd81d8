-- `weave::put_row` meets its contract: the row where it fits, and otherwise nothing.
use native.Mathlib.Omega.{arith}
use lib.ListN.{length}
use Rattle.weave.proofs.Rows.{row_small, put_whole, put_none}
use Rattle.weave.proofs.put_row.Goals as goal

pub overflow_mul-count : goal.overflow_mul-count
overflow_mul-count c = let a = c.args in omega (arith, row_small a.w a.row (length a.room.now) c.if-is_row.ensures.holds)

pub part_of-p-requires : goal.part_of-p-requires
part_of-p-requires c = (row_small _ _ _ c.if-is_row.ensures.holds).0

pub lay-requires : goal.lay-requires
lay-requires c =
    let a = c.args in
    let row = row_small a.w a.row (length a.room.now) c.if-is_row.ensures.holds in
    record { fits = row.1; small = rw c.part_of-p.ensures.part (omega (arith, row.0)) }

pub returns-then-is_row : goal.returns-then-is_row
returns-then-is_row c =
    let put = put_whole _ _ _ _ c.if-is_row.ensures.holds _ c.part_of-p.ensures.part _ c.lay.ensures.bytes in
    record { count = put.0; bytes = put.1.0; within = put.1.1 }

pub returns : goal.returns
returns c =
    let put = put_none _ _ _ _ c.if-is_row.ensures.holds in
    record { count = put.0; bytes = put.1.0; within = put.1.1 }
