-- Control A (01, "Register map"; 02, Q-4; 000, table 8.1): which words are in the build, and what their bits mean. Assumes nothing.
use Rattle.std.specs.Prelude.{ℕ, ◌/◌, ◌%◌, ◌^◌, Bool, not, cond, ◌||◌, List, [], ◌∷◌, eqb, get_or}

-- `count` bits of a word, from bit `low` on, as a number
abbrev pub field : ℕ → ℕ → ℕ → ℕ
field low count word = word / 2 ^ low % 2 ^ count

abbrev pub bit : ℕ → ℕ → Bool
bit n word = eqb (field n 1 word) 1

-- bit 0 runs the generator
abbrev pub running : ℕ → Bool
running control = bit 0 control

-- bit 1 is 1 for interlaced screens
abbrev pub interlaced : ℕ → Bool
interlaced control = bit 1 control

-- bit 4 is 1 for plain flyback sync
abbrev pub plain : ℕ → Bool
plain control = bit 4 control

-- bit 10 forces blanking
abbrev pub forced_blank : ℕ → Bool
forced_blank control = bit 10 control

-- bit 14 switches transfers off
abbrev pub transferring : ℕ → Bool
transferring control = not (bit 14 control)

-- bit 23 switches the cursor off
abbrev pub cursor_on : ℕ → Bool
cursor_on control = not (bit 23 control)

-- refused by 4 wherever it is written: a 1 in bit 3, 11 or 15 to 19, or a depth code past 8 bits, which has bit 22 set (a word past bit 23 has got 1 already)
abbrev pub outside : ℕ → Bool
outside control =
    not (eqb (field 3 1 control) 0) ||
    not (eqb (field 11 1 control) 0) ||
    not (eqb (field 15 5 control) 0) ||
    not (eqb (field 22 1 control) 0)

-- bits 21 and 20: 0, 1, 2, 3 for 1, 2, 4, 8 bits a pixel
abbrev pub depth : ℕ → ℕ
depth control = field 20 2 control

-- bits a pixel
abbrev pub pixel_bits : ℕ → ℕ
pixel_bits control = 2 ^ depth control

-- the shift periods, in screen units, for 1, 2, 4 and 8 bits
abbrev pub shift_periods : List ℕ
shift_periods = 16 ∷ 8 ∷ 4 ∷ 2 ∷ []

abbrev pub shift_period : ℕ → ℕ
shift_period control = get_or shift_periods (depth control) 0

-- the address increments, by bits 13 and 12: of a screen that is not interlaced, and of one that is
abbrev pub increments : List ℕ
increments = 1 ∷ 256 ∷ 512 ∷ 1024 ∷ []

abbrev pub interlaced_increments : List ℕ
interlaced_increments = 1 ∷ 2 ∷ 512 ∷ 1024 ∷ []

-- what is added to top for the second field, by the same bits (02, Q-4)
abbrev pub offsets : List ℕ
offsets = 1 ∷ 1 ∷ 256 ∷ 512 ∷ []

abbrev pub increment_code : ℕ → ℕ
increment_code control = field 12 2 control

unfoldable pub increment : ℕ → ℕ
increment control = cond (interlaced control) (get_or interlaced_increments (increment_code control) 0) (get_or increments (increment_code control) 0)

abbrev pub offset : ℕ → ℕ
offset control = get_or offsets (increment_code control) 0

-- an address is divided by this for its row's number: the offset of an interlaced screen, the increment of any other
unfoldable pub row_divisor : ℕ → ℕ
row_divisor control = cond (interlaced control) (offset control) (increment control)

-- how many rows an increment goes on: one, and two where interlaced but for code 00
abbrev pub row_step : ℕ → ℕ
row_step control = cond (interlaced control) (cond (eqb (increment_code control) 0) 1 2) 1
