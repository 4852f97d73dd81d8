-- `colour::masked_palette` meets its contract. The invariant: each entry before `pixel` is that pixel's colour. Assumes nothing.
use Rattle.std.proofs.Common.{◌≡◌, ℕ, ◌<◌, get_or}
use Rattle.colour.specs.Colour.{masked_colour}
use Rattle.colour.proofs.masked_palette.Given as goal

abbrev pub invariant-loop-pixel : goal.invariant-loop-pixel
invariant-loop-pixel l = (k : ℕ) → k < l.pixel → get_or l.colour-items k 0 ≡ masked_colour l.palette l.mask k
