-- The cursor (01, "Rows and pixels"): 64 by 64 pixels from a signed position. Assumes nothing.
use Rattle.std.specs.Prelude.{ℕ, zero, suc, ◌+◌, ◌*◌, ◌/◌, ◌%◌, ◌^◌, min, Bool, cond, ◌&&◌, List, ltb, leb, ℤ, pos, negsuc, ◌-ℤ◌, get_or}
use Rattle.control.specs.Control.{field, cursor_on}

-- a 12-bit field in two's complement: from -2,048 to 2,047
abbrev pub signed12 : ℕ → ℤ
signed12 n = cond (ltb n 2048) (pos n) (pos n -ℤ pos 4096)

-- the column and the row of pixel x of line y within the cursor: x in bits 23 to 12 of the position, y in bits 11 to 0
abbrev pub cursor_column : ℕ → ℕ → ℤ
cursor_column position x = pos x -ℤ signed12 (field 12 12 position)

abbrev pub cursor_row : ℕ → ℕ → ℤ
cursor_row position y = pos y -ℤ signed12 (field 0 12 position)

-- word 8 x row + column/8 holds eight columns, lowest bits first
abbrev pub code_at : List ℕ → ℕ → ℕ → ℕ
code_at store row column = get_or store (8 * row + column / 8) 0 / 4 ^ (column % 8) % 4

-- the code at a row and a column; outside the 64 by 64 it is 00
abbrev pub code_within : List ℕ → ℤ → ℤ → ℕ
code_within store (pos row) (pos column) = cond (ltb row 64 && ltb column 64) (code_at store row column) 0
code_within store (pos row) (negsuc column) = 0
code_within store (negsuc row) column = 0

-- the code of pixel x of line y under a cursor at a position
unfoldable pub cursor_code : List ℕ → ℕ → ℕ → ℕ → ℕ
cursor_code store position x y = code_within store (cursor_row position y) (cursor_column position x)

-- the same where it is switched on by the control, and 00 where it is off
abbrev pub code_over : ℕ → ℕ → List ℕ → ℕ → ℕ → ℕ
code_over control position store x y = cond (cursor_on control) (cursor_code store position x y) 0

-- 00 is transparent; 01, 10, 11 are cursor colours 1, 2, 3
abbrev pub over : List ℕ → ℕ → ℕ → ℕ
over colours zero below = below
over colours (suc k) below = get_or colours k 0

-- a 12-bit field in two's complement, counted from -2,048
abbrev pub biased : ℕ → ℕ
biased field = (field + 2048) % 4096

-- the cursor's first column and its first line, counted so
abbrev pub first_column : ℕ → ℕ
first_column position = biased (position / 0x1000 % 0x1000)

abbrev pub first_line : ℕ → ℕ
first_line position = biased (position % 0x1000)

-- the pixels of a tick after its first
abbrev pub others : ℕ
others = 3

-- one of the four pixels from x on may lie in the 64 by 64, all counted so
abbrev pub near : ℕ → ℕ → ℕ → Bool
near position x y =
    leb (first_line position) (y + 2048) &&
    ltb (y + 2048) (first_line position + 64) &&
    leb (first_column position) (x + 2048 + others) &&
    ltb (x + 2048) (first_column position + 64)

-- a column or a row within the 64; outside it is put at 64
abbrev pub within : ℤ → ℕ
within (pos n) = min n 64
within (negsuc n) = 64
