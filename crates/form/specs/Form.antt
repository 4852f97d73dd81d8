-- The form that a chart is drawn on: the grid, and the labels beside it. Assumes nothing.
use Rattle.std.specs.Prelude.{ℕ, ◌+◌, ◌*◌, ◌-◌, ◌/◌, ◌%◌, ◌^◌, Bool, cond, ◌&&◌, ◌||◌, List, [], ◌∷◌, ltb, leb, eqb, get_or}
use Rattle.base.specs.Count.{some}
use Rattle.marks.specs.declared.points.Point.{Point}

-- octaves, half octaves dashed, the two sides, every 10 dB, and 0 dB twice as thick
unfoldable pub grid : Point → Bool
grid p =
    leb 36 p.y && leb p.y 452 &&
    ((leb 112 p.x && leb p.x 496 && eqb ((p.x - 112) % 64) 0) ||
    (leb 272 p.x && leb p.x 464 && eqb ((p.x - 112) % 64) 32 && ltb (p.y % 8) 4) ||
    (eqb p.x 80 || eqb p.x 528) ||
    ((leb 80 p.x && leb p.x 528) && (eqb ((p.y - 36) % 32) 0 || eqb p.y 69)))

-- the signs: seven rows of a byte, the top one first, the left column in bit 5
abbrev pub font : List ℕ
font =
    0x1C22262A32221C ∷  -- 0
    0x0818080808081C ∷  -- 1
    0x1C22020408103E ∷  -- 2
    0x3E04080402221C ∷  -- 3
    0x040C14243E0404 ∷  -- 4
    0x3E203C0202221C ∷  -- 5
    0x0C10203C22221C ∷  -- 6
    0x3E020408101010 ∷  -- 7
    0x1C22221C22221C ∷  -- 8
    0x1C22221E020418 ∷  -- 9
    0x0000003E000000 ∷  -- -
    0x2222223E222222 ∷  -- H
    0x00003E0408103E ∷  -- z
    0x02021A2622221E ∷  -- d
    0x3C22223C22223C ∷  -- B
    0x2020202020203E ∷  -- L
    0x3C22223C282422 ∷  -- R
    0x1C08080808081C ∷  -- I
    0x1C22202E22221E ∷  -- G
    0x3E080808080808 ∷  -- T
    0x3E20203C20203E ∷  -- E
    0x3E20203C202020 ∷  -- F
    []

-- the labels, five signs each, blank past the last: the octaves, the half octaves, the levels, the units and the ears
abbrev pub texts : List ℕ
texts =
    0x010205FFFF ∷  -- 125
    0x020500FFFF ∷  -- 250
    0x050000FFFF ∷  -- 500
    0x01000000FF ∷  -- 1000
    0x02000000FF ∷  -- 2000
    0x04000000FF ∷  -- 4000
    0x08000000FF ∷  -- 8000
    0x070500FFFF ∷  -- 750
    0x01050000FF ∷  -- 1500
    0x03000000FF ∷  -- 3000
    0x06000000FF ∷  -- 6000
    0x0A0100FFFF ∷  -- -10
    0x00FFFFFFFF ∷  -- 0
    0x0100FFFFFF ∷  -- 10
    0x0200FFFFFF ∷  -- 20
    0x0300FFFFFF ∷  -- 30
    0x0400FFFFFF ∷  -- 40
    0x0500FFFFFF ∷  -- 50
    0x0600FFFFFF ∷  -- 60
    0x0700FFFFFF ∷  -- 70
    0x0800FFFFFF ∷  -- 80
    0x0900FFFFFF ∷  -- 90
    0x010000FFFF ∷  -- 100
    0x010100FFFF ∷  -- 110
    0x010200FFFF ∷  -- 120
    0x0B0CFFFFFF ∷  -- Hz
    0x0D0EFF0B0F ∷  -- dB HL
    0x1011120B13 ∷  -- RIGHT
    0x0F141513FF ∷  -- LEFT
    []

-- where each begins
abbrev pub lefts : List ℕ
lefts = 95 ∷ 159 ∷ 223 ∷ 281 ∷ 345 ∷ 409 ∷ 473 ∷ 264 ∷ 325 ∷ 389 ∷ 453 ∷ 40 ∷ 64 ∷ 52 ∷ 52 ∷ 52 ∷ 52 ∷ 52 ∷ 52 ∷ 52 ∷ 52 ∷ 52 ∷ 40 ∷ 40 ∷ 40 ∷ 540 ∷ 8 ∷ 570 ∷ 570 ∷ []

abbrev pub tops : List ℕ
tops = 6 ∷ 6 ∷ 6 ∷ 6 ∷ 6 ∷ 6 ∷ 6 ∷ 25 ∷ 25 ∷ 25 ∷ 25 ∷ 29 ∷ 61 ∷ 93 ∷ 125 ∷ 157 ∷ 189 ∷ 221 ∷ 253 ∷ 285 ∷ 317 ∷ 349 ∷ 381 ∷ 413 ∷ 445 ∷ 6 ∷ 464 ∷ 45 ∷ 77 ∷ []

-- a dot of a sign; past the last sign there is none
unfoldable pub inked : ℕ → ℕ → ℕ → Bool
inked number column row = eqb (get_or font number 0 / 2 ^ (8 * (6 - row) + (5 - column)) % 2) 1

-- a dot of a text of five signs, six columns to a sign
unfoldable pub dot : ℕ → ℕ → ℕ → Bool
dot text column row = inked (text / 2 ^ (8 * (4 - column / 6)) % 256) (column % 6) row

-- pixels in dots: small signs have one pixel to a dot, large ones two
abbrev pub scaled : Bool → ℕ → ℕ
scaled small pixels = cond small pixels (pixels / 2)

-- a pixel of a text that begins at a point
unfoldable pub text_at : Bool → Point → ℕ → Point → Bool
text_at small from text p =
    (leb from.x p.x && leb from.y p.y && ltb (scaled small (p.x - from.x)) 30 && ltb (scaled small (p.y - from.y)) 7) &&
    dot text (scaled small (p.x - from.x)) (scaled small (p.y - from.y))

-- a pixel of label k: the half octaves' signs are small
unfoldable pub labelled : Point → ℕ → Bool
labelled p k = text_at (leb 7 k && leb k 10) (record { x = get_or lefts k 0; y = get_or tops k 0 }) (get_or texts k 0) p

-- A PIXEL OF THE FORM
unfoldable pub form : Point → Bool
form p = grid p || some (λ k. labelled p k) 29
