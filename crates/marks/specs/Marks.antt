-- Marks and lines: which pixels they cover. The right ear's mark is a circle, the left ear's a cross. Assumes nothing.
use Rattle.std.specs.Prelude.{ℕ, ◌+◌, ◌*◌, ◌-◌, Bool, cond, ◌&&◌, ltb, leb}
use Rattle.marks.specs.Points.{apart, distance}
use Rattle.marks.specs.declared.points.Point.{Point}

-- a circle of radius 7, two pixels thick
abbrev pub ring : Point → Point → Bool
ring p centre = leb 31 (distance p centre) && leb (distance p centre) 56

-- two strokes from corner to corner of a square 13 pixels wide
abbrev pub cross : Point → Point → Bool
cross p centre =
    leb (apart (apart p.x centre.x) (apart p.y centre.y)) 1 && leb (apart p.x centre.x) 6 && leb (apart p.y centre.y) 6

-- the mark of the right ear, or of the left
unfoldable pub mark : Bool → Point → Point → Bool
mark right p centre = cond right (ring p centre) (cross p centre)

-- the larger of a line's width and height
abbrev pub reach : Point → Point → ℕ
reach from to = cond (ltb (to.x - from.x) (apart from.y to.y)) (apart from.y to.y) (to.x - from.x)

-- a line between two points, left to right: what is due at the pixel's column, times the line's width, is within one pixel of what is there;
-- and outside the marks at both ends
unfoldable pub line : Point → Point → Point → Bool
line p from to =
    leb from.x p.x &&
    leb p.x to.x &&
    leb (apart ((p.x - from.x) * to.y + (to.x - p.x) * from.y) (p.y * (to.x - from.x))) (reach from to) &&
    (ltb 56 (distance p from) && ltb 56 (distance p to))
