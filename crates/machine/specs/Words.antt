-- The checksum words (01, "Rows and pixels") as they are read. Assumes nothing.
use Rattle.std.specs.Prelude.{ℕ, ◌/◌, ◌%◌, ◌^◌, List}
use Rattle.base.specs.Count.{run}
use Rattle.base.specs.Channels.{joined}
use Rattle.pixel.specs.declared.Sums.{Sums}

-- #0C0 holds the three low bytes, #0C1 the middle, #0C2 the high ones, red leftmost
abbrev pub byte_of : ℕ → ℕ → ℕ
byte_of k sum = sum / 256 ^ k % 256

unfoldable pub checksum_words : Sums → List ℕ
checksum_words sums = run (λ k. joined (byte_of k sums.red) (byte_of k sums.green) (byte_of k sums.blue)) 0 3
