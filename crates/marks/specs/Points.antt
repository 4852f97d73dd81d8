-- How far apart numbers and points are. Assumes nothing.
use Rattle.std.specs.Prelude.{ℕ, ◌+◌, ◌*◌, ◌-◌}
use Rattle.marks.specs.declared.points.Point.{Point}

-- how far two numbers are apart
abbrev pub apart : ℕ → ℕ → ℕ
apart a b = (a - b) + (b - a)

-- the square of the distance of two points
abbrev pub distance : Point → Point → ℕ
distance p q = apart p.x q.x * apart p.x q.x + apart p.y q.y * apart p.y q.y
