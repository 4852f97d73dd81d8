-- The script's lines around its pokes and its start: the memory that is lent, a frame's ticks, the picture, the checksums. Assumes nothing.
use Rattle.std.specs.Prelude.{ℕ, Bool, cond, List, [], ◌++◌}
use Rattle.text.specs.Ascii.{ascii}
use Rattle.text.specs.Decimal.{decimal_text}
use Rattle.text.specs.Lines.{line_end}

-- the bytes that are lent
abbrev pub lent_bytes : Bool → ℕ
lent_bytes interlaced = cond interlaced 77824 76800

-- the ticks of a field, which not interlaced is the frame, and the bytes of the picture
abbrev pub field_run : Bool → ℕ
field_run interlaced = cond interlaced 51450 105000

abbrev pub picture_bytes : Bool → ℕ
picture_bytes interlaced = cond interlaced 923520 921600

-- a command with a number, and `nine`
abbrev pub number_line : List ℕ → ℕ → List ℕ
number_line name number = name ++ decimal_text number ++ line_end

abbrev pub nine_line : List ℕ
nine_line = ascii "nine" ++ line_end

abbrev pub memory_text : Bool → List ℕ
memory_text interlaced = number_line (ascii "memory ") (lent_bytes interlaced)

-- interlaced, the first field's ticks and its checksums; then a field's ticks, the picture, and the checksums that it leaves
abbrev pub end_text : Bool → List ℕ
end_text interlaced =
    cond interlaced (number_line (ascii "run ") (field_run interlaced) ++ nine_line) []
    ++ number_line (ascii "run ") (field_run interlaced)
    ++ number_line (ascii "picture ") (picture_bytes interlaced)
    ++ nine_line
