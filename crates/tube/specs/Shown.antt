-- What the script shows: the picture that it asks for, and a patient's chart in the file that `draw` makes of it. right, left: the patient's two
-- ears; buffer: the room for the picture. Assumes nothing.
use Rattle.std.specs.Prelude.{ℕ, ◌+◌, ◌*◌, ◌≤◌, ◌<◌, Bool, true, false, cond, List, [], ◌∷◌, ◌≡◌, length, get_or, replicate}
use Rattle.base.specs.Channels.{joined}
use Rattle.machine.specs.declared.Machine.{Machine}
use Rattle.picture.specs.Picture.{buffer_of}
use Rattle.picture.specs.Machines.{ticked, pictured}
use Rattle.weave.specs.Weave.{byte_at, byte_of}
use Rattle.calls.specs.Calls.{size_of}
use Rattle.calls.specs.Woven.{weave_of}
use Rattle.marks.specs.Ear.{shows}
use Rattle.audiogram.specs.Entry.{entry_at}
use Rattle.audiogram.specs.Places.{fields}
use Rattle.audiogram.specs.Picture.{drawn}
use Rattle.marks.specs.declared.points.Point.{Point}
use Rattle.scribe.specs.Ending.{lent_bytes, field_run, picture_bytes}
use Rattle.tube.specs.Started.{started}

-- the memory that it lends, with the chart poked into it
abbrev pub memory_of : Bool → List ℕ → List ℕ → List ℕ
memory_of interlaced right left = drawn interlaced right left (replicate (lent_bytes interlaced) 0)

-- the ticks that it runs, of one field or of two; the checksums that it asks for between the two change nothing
abbrev pub frame_run : Bool → ℕ
frame_run interlaced = fields interlaced * field_run interlaced

-- the machine that it then asks for the picture, what that answers, and the picture
unfoldable pub asked : Bool → List ℕ → List ℕ → Machine
asked interlaced right left = ticked (started interlaced) (memory_of interlaced right left) (frame_run interlaced)

abbrev pub refusal : Bool → List ℕ → List ℕ → ℕ
refusal interlaced right left = (pictured (asked interlaced right left) (memory_of interlaced right left) (picture_bytes interlaced)).refusal

unfoldable pub picture : Bool → List ℕ → List ℕ → List ℕ → List ℕ
picture interlaced right left buffer =
    buffer_of (asked interlaced right left).regs (memory_of interlaced right left) (asked interlaced right left).generator buffer

-- red, green or blue at a row and column of the file: woven where interlaced, and as the picture stands where not
unfoldable pub file_at : Bool → List ℕ → List ℕ → List ℕ → ℕ → ℕ → ℕ → ℕ
file_at interlaced right left buffer row column channel =
    cond interlaced
    (byte_at (weave_of (size_of (asked interlaced right left))) (picture interlaced right left buffer)
    (byte_of (weave_of (size_of (asked interlaced right left))) row column channel))
    (get_or (picture interlaced right left buffer) (3 * (row * (size_of (asked interlaced right left)).width + column) + channel) 0)

-- a line of the chart stands one row lower where interlaced, below a half row; the colour of a pixel of the chart in the file
abbrev pub row_of : Bool → ℕ → ℕ
row_of interlaced y = cond interlaced (y + 1) y

abbrev pub colour_at : Bool → List ℕ → List ℕ → List ℕ → Point → ℕ
colour_at interlaced right left buffer p =
    joined (file_at interlaced right left buffer (row_of interlaced p.y) p.x 0)
    (file_at interlaced right left buffer (row_of interlaced p.y) p.x 1)
    (file_at interlaced right left buffer (row_of interlaced p.y) p.x 2)

-- the colours of the entries: paper, right ear, left ear, form
abbrev pub entry_colours : List ℕ
entry_colours = 0xFFFFFF ∷ 0xFF0000 ∷ 0x0000FF ∷ 0x606060 ∷ []

-- THE CHART IN A ROOM: the picture is not refused; its file has a row for each of the chart's lines, and two more where interlaced; a pixel of the
-- chart has its entry's colour there. So it is red exactly where the right ear shows, and blue exactly where the left ear does and the right does
-- not lie over it
pub record ChartShown (interlaced : Bool) (right left : List ℕ) : Type 0 where
  pub taken : refusal interlaced right left ≡ 0
  pub sized : size_of (asked interlaced right left) ≡ record { width = 640; height = cond interlaced 482 480; half = cond interlaced 272 0 }
  pub coloured :
      (buffer : List ℕ) → length buffer ≡ picture_bytes interlaced → (p : Point) → p.x < 640 → p.y < 480 →
      colour_at interlaced right left buffer p ≡ get_or entry_colours (entry_at right left p) 0
  pub right_red :
      (buffer : List ℕ) → length buffer ≡ picture_bytes interlaced → (p : Point) → p.x < 640 → p.y < 480 →
      shows true right p ≡ true → colour_at interlaced right left buffer p ≡ 0xFF0000
  pub red_right :
      (buffer : List ℕ) → length buffer ≡ picture_bytes interlaced → (p : Point) → p.x < 640 → p.y < 480 →
      colour_at interlaced right left buffer p ≡ 0xFF0000 → shows true right p ≡ true
  pub left_blue :
      (buffer : List ℕ) → length buffer ≡ picture_bytes interlaced → (p : Point) → p.x < 640 → p.y < 480 →
      shows true right p ≡ false → shows false left p ≡ true → colour_at interlaced right left buffer p ≡ 0x0000FF
  pub blue_left :
      (buffer : List ℕ) → length buffer ≡ picture_bytes interlaced → (p : Point) → p.x < 640 → p.y < 480 →
      colour_at interlaced right left buffer p ≡ 0x0000FF → (shows true right p ≡ false) × (shows false left p ≡ true)

-- ONE CHART IN ALL ROOMS: each of its 640 by 480 pixels has one colour in both files, byte for byte, and the half rows above and below the
-- interlaced one are white, as paper is
pub record SameChart (right left : List ℕ) : Type 0 where
  pub same :
      (today oldest : List ℕ) → length today ≡ picture_bytes false → length oldest ≡ picture_bytes true →
      (p : Point) (channel : ℕ) → p.x < 640 → p.y < 480 → channel < 3 →
      file_at true right left oldest (row_of true p.y) p.x channel ≡ file_at false right left today (row_of false p.y) p.x channel
  pub above :
      (oldest : List ℕ) → length oldest ≡ picture_bytes true → (column channel : ℕ) → 272 ≤ column → column < 640 → channel < 3 →
      file_at true right left oldest 0 column channel ≡ 255
  pub below :
      (oldest : List ℕ) → length oldest ≡ picture_bytes true → (column channel : ℕ) → column < 272 → channel < 3 →
      file_at true right left oldest 481 column channel ≡ 255
