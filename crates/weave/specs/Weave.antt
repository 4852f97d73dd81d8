-- An interlaced picture (02, Q-4) woven for a file as a tube shows it. Assumes nothing. A is the field whose VDisplay begins with a first half, B
-- the other: a test says which. Each has lines / 2 whole lines and a half one, with which B begins and A ends.
use Rattle.std.specs.Prelude.{ℕ, ◌+◌, ◌-◌, ◌*◌, ◌/◌, ◌%◌, Bool, true, false, not, cond, ◌&&◌, ◌||◌, List, [], ltb, leb, eqb, get_or}
use Rattle.base.specs.Count.{run}
use Rattle.weave.specs.declared.Weave.{Weave}

-- VDisplay is odd, and a first half is part of its line
abbrev pub is_weave : Weave → Bool
is_weave w = leb w.half w.width && eqb (w.lines % 2) 1

-- the column of a field's first pixel, in its row 0
abbrev pub start_of : Weave → Bool → ℕ
start_of w b = cond b w.half 0

-- a field's pixels: B's half line has what follows a first half, A's the first half
abbrev pub pixels_of : Weave → Bool → ℕ
pixels_of w b = cond b (w.lines / 2 * w.width + (w.width - w.half)) (w.lines / 2 * w.width + w.half)

-- where a field begins in the picture: the second past the first, which is B where the first begins late, with a second half
abbrev pub begin_of : Weave → Bool → ℕ
begin_of w b = cond b (cond w.late 0 (pixels_of w false)) (cond w.late (pixels_of w true) 0)

-- the fields take turns, row by row, and B has the uppermost
abbrev pub is_of_b : ℕ → Bool
is_of_b row = eqb (row % 2) 0

-- a place counted through the rows of its field
abbrev pub along : Weave → ℕ → ℕ → ℕ
along w row column = row / 2 * w.width + column

-- what a half line lacks: what lies before the field's first pixel, or past its last
unfoldable pub lacked : Weave → ℕ → ℕ → Bool
lacked w row column =
    ltb (along w row column) (start_of w (is_of_b row)) || not (ltb (along w row column) (start_of w (is_of_b row) + pixels_of w (is_of_b row)))

-- the number, in the picture, of the pixel that stands at a row and column of the file
unfoldable pub pixel_at : Weave → ℕ → ℕ → ℕ
pixel_at w row column = begin_of w (is_of_b row) + (along w row column - start_of w (is_of_b row))

-- red, green or blue at a row and column: black where the line lacks it
abbrev pub channel_at : Weave → List ℕ → ℕ → ℕ → ℕ → ℕ
channel_at w picture row column channel =
    cond (lacked w row column) 0 (get_or picture (3 * pixel_at w row column + channel) 0)

-- byte n of the file, three for each pixel, row by row; and which byte a channel is
unfoldable pub byte_at : Weave → List ℕ → ℕ → ℕ
byte_at w picture n = channel_at w picture (n / 3 / w.width) (n / 3 % w.width) (n % 3)

abbrev pub byte_of : Weave → ℕ → ℕ → ℕ → ℕ
byte_of w row column channel = 3 * (row * w.width + column) + channel

-- the bytes of a row
abbrev pub row_bytes : Weave → List ℕ → ℕ → List ℕ
row_bytes w picture row = run (byte_at w picture) (3 * row * w.width) (3 * w.width)

-- a row of the file that fits into so many bytes, of numbers that keep each place within 64 bits
abbrev pub is_row : Weave → ℕ → ℕ → Bool
is_row w row size =
    is_weave w && ltb w.width 0x10000 && ltb w.lines 0x10000 && leb row w.lines && leb w.width (size / 3)

-- what is put into so many bytes: nothing where it is no such row
unfoldable pub row_put : Weave → List ℕ → ℕ → ℕ → List ℕ
row_put w picture row size = cond (is_row w row size) (row_bytes w picture row) []
