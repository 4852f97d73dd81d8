-- The boxes that an ear's marks and lines cannot leave: four pixels in a row that lie in none of them need not be asked about. Assumes nothing.
use Rattle.std.specs.Prelude.{ℕ, ◌+◌, ◌-◌, Bool, true, false, cond, ◌&&◌, ◌||◌, List, leb, eqb, get_or}
use Rattle.base.specs.Count.{some}
use Rattle.marks.specs.Ear.{measured, point_of, key_of, last_before}
use Rattle.marks.specs.declared.points.Point.{Point}

-- a mark ends so many pixels from its centre
abbrev pub mark_ends : ℕ
mark_ends = 7

-- a line is so many rows thick to each side: the steepest goes 416 rows down in 32 columns
abbrev pub thickness : ℕ
thickness = 13

-- one of four pixels from p on lies in the box of two points, with as much around it
unfoldable pub close : Point → Point → Point → Bool
close p from to =
    (leb (from.x - (mark_ends + 3)) p.x && leb (p.x - mark_ends) to.x) &&
    (leb (from.y - thickness) p.y || leb (to.y - thickness) p.y) &&
    (leb (p.y - thickness) from.y || leb (p.y - thickness) to.y)

-- one of them in the box of frequency k's mark and of the line to it from the one measured before, if any was
unfoldable pub near_at : List ℕ → Point → ℕ → ℕ → Bool
near_at levels p last k =
    measured (get_or levels k 0) && close p (point_of levels (cond (eqb last 0) k (last - 1))) (point_of levels k)

-- one of them in a box of the ear, or of the keys
unfoldable pub near : List ℕ → Point → Bool
near levels p =
    some (λ k. near_at levels p (last_before levels k) k) 11 || close p (key_of true) (key_of false)
