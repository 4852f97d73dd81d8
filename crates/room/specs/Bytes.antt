-- The bytes of a picture memory (docs/SCRIPT.md), and numbers as bytes. Assumes nothing.
use Rattle.std.specs.Prelude.{ℕ, ◌+◌, ◌-◌, ◌*◌, ◌%◌, cond, List, get_or, take, replicate}
use Rattle.room.specs.Room.{laid, fits}

-- `fill`: byte i from `at` on becomes (start + i x step) mod 256; as it was where they do not fit
unfoldable pub fill_memory : List ℕ → ℕ → ℕ → ℕ → ℕ → List ℕ
fill_memory memory at count start step =
    cond (fits memory at count) (laid (λ i. (start + i * step) % 256) memory at count) memory

-- eighty numbers as bytes, from number `from` on
abbrev pub bytes_from : List ℕ → ℕ → List ℕ
bytes_from values from = laid (λ k. get_or values (from + k) 0 % 256) (replicate 80 0) 0 80

-- the bytes that `poke` stores: the words past the first
abbrev pub poke_bytes : List ℕ → ℕ → List ℕ
poke_bytes values count = take (count - 1) (bytes_from values 1)
