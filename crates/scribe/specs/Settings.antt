-- The script's register writes, as text from a table. Assumes nothing.
use Rattle.std.specs.Prelude.{ℕ, ◌+◌, ◌*◌, ◌/◌, ◌%◌, Bool, cond, List, [], ◌∷◌, ◌++◌, length, get_or}
use Rattle.room.specs.Room.{texts_of}
use Rattle.text.specs.Ascii.{ascii}
use Rattle.text.specs.Hex.{hex_text}
use Rattle.text.specs.Lines.{line_end}

-- an address and its value, of 24 bits each
abbrev pub at : ℕ → ℕ → ℕ
at address value = address * 0x1000000 + value

abbrev pub address_of : ℕ → ℕ
address_of setting = setting / 0x1000000 % 0x1000000

abbrev pub value_of : ℕ → ℕ
value_of setting = setting % 0x1000000

-- today's rooms: a monitor's 640 by 480 at 60 Hz, in screen units of four pixels and half lines
abbrev pub screen : List ℕ
screen =
    at 0x021 12 ∷  -- HalfSync
    at 0x022 12 ∷  -- BackPorch
    at 0x023 160 ∷  -- Display
    at 0x024 60 ∷  -- ShortDisplay
    at 0x025 88 ∷  -- BroadPulse
    at 0x026 4 ∷  -- VSync
    at 0x027 20 ∷  -- VPreEqualise
    at 0x028 6 ∷  -- VPostEqualise
    at 0x029 60 ∷  -- VBlank
    at 0x02A 960 ∷  -- VDisplay
    at 0x02B 200 ∷  -- LineTime
    at 0x02C 0 ∷  -- LineStart
    at 0x02D 1016 ∷  -- MemInit
    at 0x02E 8 ∷  -- TransferDelay
    []

-- the oldest rooms: a monitor of 525 interlaced lines, at 15.7 thousand lines a second
abbrev pub interlaced_screen : List ℕ
interlaced_screen =
    at 0x021 7 ∷  -- HalfSync
    at 0x022 16 ∷  -- BackPorch
    at 0x023 160 ∷  -- Display
    at 0x024 62 ∷  -- ShortDisplay
    at 0x025 84 ∷  -- BroadPulse
    at 0x026 6 ∷  -- VSync
    at 0x027 6 ∷  -- VPreEqualise
    at 0x028 6 ∷  -- VPostEqualise
    at 0x029 26 ∷  -- VBlank
    at 0x02A 481 ∷  -- VDisplay
    at 0x02B 196 ∷  -- LineTime
    at 0x02C 0 ∷  -- LineStart
    at 0x02D 1016 ∷  -- MemInit
    at 0x02E 8 ∷  -- TransferDelay
    []

-- the mask, the top and the palette, the same in all rooms
abbrev pub colours : List ℕ
colours =
    at 0x040 0xFFFFFF ∷  -- mask
    at 0x080 0 ∷  -- top of screen
    at 0x100 0xFFFFFF ∷  -- paper
    at 0x101 0xFF0000 ∷  -- right ear
    at 0x102 0x0000FF ∷  -- left ear
    at 0x103 0x606060 ∷  -- form
    []

abbrev pub settings : Bool → List ℕ
settings interlaced = cond interlaced interlaced_screen screen ++ colours

-- control A: the generator runs at 2 bits a pixel, flyback tesselated, the cursor off; interlaced, with 01 in bits 13 and 12
abbrev pub start : Bool → ℕ
start interlaced = at 0x060 (cond interlaced 0x901003 0x900001)

-- `write ADDRESS VALUE` and the line's end
abbrev pub write_texts : ℕ → ℕ → List (List ℕ)
write_texts address value = ascii "write " ∷ hex_text address ∷ ascii " " ∷ hex_text value ∷ line_end ∷ []

-- the lines of rows, an address and its value each
abbrev pub rows_texts : List (ℕ × ℕ) → List (List ℕ)
rows_texts rows = texts_of (λ i. write_texts (get_or rows i (0, 0)).0 (get_or rows i (0, 0)).1) (length rows)

-- a setting's line, the whole table's lines, and the write that starts the generator
abbrev pub setting_texts : ℕ → List (List ℕ)
setting_texts setting = write_texts (address_of setting) (value_of setting)

abbrev pub settings_texts : Bool → List (List ℕ)
settings_texts interlaced = texts_of (λ i. setting_texts (get_or (settings interlaced) i 0)) (length (settings interlaced))

abbrev pub start_texts : Bool → List (List ℕ)
start_texts interlaced = setting_texts (start interlaced)
