-- Stretches of pixels as the code draws them: a colour through a table of 256, the cursor over it, bytes and sums. Assumes nothing.
use Rattle.std.specs.Prelude.{ℕ, ◌+◌, ◌≤◌, List, [], ◌∷◌, ◌≡◌, get_or}
use Rattle.std.proofs.lemmas.List.Edits.{sets}
use Rattle.base.specs.Count.{run}
use Rattle.memory.specs.Memory.{pixel_shown}
use Rattle.base.specs.Channels.{red, green, blue}
use Rattle.cursor.specs.Cursor.{over}
use Rattle.pixel.specs.Sums.{summed}
use Rattle.pixel.specs.declared.Sums.{Sums}
use Rattle.cursor.specs.Cursor.{code_over}
use Rattle.picture.specs.Stretch.{Small}
use Rattle.picture.specs.declared.stretch.Stretch.{Stretch}
use Rattle.picture.specs.declared.span.Brush.{Brush}

-- red, green, blue for each colour, in order
unfoldable pub bytes_of : List ℕ → List ℕ
bytes_of [] = []
bytes_of (colour ∷ rest) = red colour ∷ green colour ∷ blue colour ∷ bytes_of rest

-- colours are painted: their bytes are stored from `at` on, all other bytes stand, and the sums have them added
pub record Painted (before : List ℕ) (at : ℕ) (s : Sums) (colours : List ℕ) (after : List ℕ) (t : Sums) : Type 0 where
  pub stored : after ≡ sets before at (bytes_of colours)
  pub added : t ≡ summed s colours

-- what colours are looked up through: the control, the cursor's position, the masked palette, the cursor's store and colours, the memory
pub record Through : Type 0 where
  pub control : ℕ
  pub position : ℕ
  pub table : List ℕ
  pub store : List ℕ
  pub colours : List ℕ
  pub memory : List ℕ

abbrev pub through : ℕ → ℕ → List ℕ → List ℕ → List ℕ → List ℕ → Through
through control position table store colours memory =
    record { control = control; position = position; table = table; store = store; colours = colours; memory = memory }

-- the same of a brush
abbrev pub through_by : Brush → Through
through_by b = through b.control b.position b.table.now b.store.now b.colours.now b.memory.now

-- what a place shows through a table of 256 colours, without the cursor
abbrev pub plain_colour : ℕ → List ℕ → List ℕ → ℕ → ℕ
plain_colour control table memory place = get_or table (pixel_shown control memory place) 0

-- pixel j of a stretch whose first stands at a place
abbrev pub uncovered_colour : ℕ → List ℕ → List ℕ → ℕ → ℕ → ℕ
uncovered_colour control table memory from j = plain_colour control table memory (from + j)

-- pixel x of line y, which stands at a place
unfoldable pub colour_through : Through → ℕ → ℕ → ℕ → ℕ
colour_through t place x y =
    over t.colours (code_over t.control t.position t.store x y) (plain_colour t.control t.table t.memory place)

-- pixel j of a stretch, with the cursor
unfoldable pub covered_colour : Through → Stretch → ℕ → ℕ
covered_colour t s j = colour_through t (s.from + j) (s.x + j) s.y

-- all its pixels are painted
abbrev pub Covered : Through → Stretch → List ℕ → Sums → List ℕ → Sums → Type 0
Covered t s before sums after sums' = Painted before s.at sums (run (covered_colour t s) 0 s.count) after sums'

-- of one that fits, the pixels from number `first` up to, not including, `end`
pub record Part (s : Stretch) (first end size : ℕ) : Type 0 where
  pub small : Small s size
  pub order : first ≤ end
  pub last : end ≤ s.count
