-- The picture: the entries of its places, four to a byte, least significant bits first. Assumes nothing.
use Rattle.std.specs.Prelude.{ℕ, ◌+◌, ◌*◌, min, Bool, cond, List, ◌++◌, length, drop}
use Rattle.base.specs.Count.{run}
use Rattle.marks.specs.declared.points.Point.{Point}
use Rattle.audiogram.specs.Entry.{paper_entry, entry_at}
use Rattle.audiogram.specs.Places.{holds, pixel_of}

-- the bytes of the picture: 480 lines of 160 bytes; for two fields, 38 rows of 1,024 bytes for each
abbrev pub size : Bool → ℕ
size interlaced = cond interlaced 77824 76800

-- the entry of a place: the chart's, and around it paper
unfoldable pub entry_of : Bool → List ℕ → List ℕ → ℕ → ℕ
entry_of interlaced right left place = cond (holds interlaced place) (entry_at right left (pixel_of interlaced place)) paper_entry

-- four entries in a byte
abbrev pub packed : ℕ → ℕ → ℕ → ℕ → ℕ
packed first second third fourth = first + 4 * second + 16 * third + 64 * fourth

-- byte i
unfoldable pub byte_at : Bool → List ℕ → List ℕ → ℕ → ℕ
byte_at interlaced right left i =
    packed (entry_of interlaced right left (4 * i))
    (entry_of interlaced right left (4 * i + 1))
    (entry_of interlaced right left (4 * i + 2))
    (entry_of interlaced right left (4 * i + 3))

-- the entries of four pixels of a line, from the first on
abbrev pub four_from : List ℕ → List ℕ → Point → ℕ
four_from right left p =
    packed (entry_at right left p)
    (entry_at right left (record { x = p.x + 1; y = p.y }))
    (entry_at right left (record { x = p.x + 2; y = p.y }))
    (entry_at right left (record { x = p.x + 3; y = p.y }))

-- a memory with the picture in its first bytes, as many as it has, and the rest as it was
unfoldable pub drawn : Bool → List ℕ → List ℕ → List ℕ → List ℕ
drawn interlaced right left memory =
    run (byte_at interlaced right left) 0 (min (length memory) (size interlaced)) ++ drop (size interlaced) memory
