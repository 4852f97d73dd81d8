-- Where the chart's pixels lie in picture memory: today's rooms have a frame of one field, the oldest rooms one of two (02, Q-4). Assumes nothing.
use Rattle.std.specs.Prelude.{ℕ, ◌+◌, ◌-◌, ◌*◌, ◌/◌, ◌%◌, Bool, cond, ◌&&◌, ltb, leb}
use Rattle.marks.specs.declared.points.Point.{Point}

-- the chart: 640 by 480 pixels
abbrev pub width : ℕ
width = 640

abbrev pub height : ℕ
height = 480

-- the fields of a frame, which show the chart's lines in turn
abbrev pub fields : Bool → ℕ
fields interlaced = cond interlaced 2 1

-- a row of picture memory has so many pixels, 1,024 units, and with increment code 01 the fields have the rows in turn: the place of pixel i of
-- a field
abbrev pub row_pixels : ℕ
row_pixels = 4096

abbrev pub place_in : Bool → ℕ → ℕ → ℕ
place_in interlaced field i = (i / row_pixels * fields interlaced + field) * row_pixels + i % row_pixels

-- the second field begins with a half line above the chart, which lacks the 68 units of a line's first half, 272 pixels
abbrev pub above : ℕ → ℕ
above field = field * (width - 272)

-- the field of a pixel, and its number among the pixels of that field
abbrev pub field_of : Bool → Point → ℕ
field_of interlaced p = p.y % fields interlaced

abbrev pub number_of : Bool → Point → ℕ
number_of interlaced p = above (field_of interlaced p) + (p.y / fields interlaced * width + p.x)

-- WHICH PLACE HOLDS WHICH PIXEL of the chart
unfoldable pub place_of : Bool → Point → ℕ
place_of interlaced p = place_in interlaced (field_of interlaced p) (number_of interlaced p)

-- the other way: the field of a place, and its number among the field's pixels
abbrev pub field_at : Bool → ℕ → ℕ
field_at interlaced place = place / row_pixels % fields interlaced

abbrev pub number_at : Bool → ℕ → ℕ
number_at interlaced place = place / row_pixels / fields interlaced * row_pixels + place % row_pixels

-- that number from the field's first line of the chart on
abbrev pub chart_at : Bool → ℕ → ℕ
chart_at interlaced place = number_at interlaced place - above (field_at interlaced place)

-- whether a place holds a pixel of the chart, and which
unfoldable pub holds : Bool → ℕ → Bool
holds interlaced place =
    leb (above (field_at interlaced place)) (number_at interlaced place) && ltb (chart_at interlaced place / width) (height / fields interlaced)

unfoldable pub pixel_of : Bool → ℕ → Point
pixel_of interlaced place =
    record {
      x = chart_at interlaced place % width;
      y = chart_at interlaced place / width * fields interlaced + field_at interlaced place;
    }
