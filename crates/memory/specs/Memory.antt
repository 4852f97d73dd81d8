-- Picture memory (01, "Rows and pixels"): packed, least significant bits of a byte first. Assumes nothing.
use Rattle.std.specs.Prelude.{ℕ, zero, suc, ◌+◌, ◌*◌, ◌/◌, ◌%◌, ◌^◌, Bool, cond, List, ltb, get_or, length}
use Rattle.control.specs.Control.{pixel_bits, transferring}

-- bit n of the memory
abbrev pub bit_at : List ℕ → ℕ → ℕ
bit_at memory n = get_or memory (n / 8) 0 / 2 ^ (n % 8) % 2

-- the number that `count` bits make, from bit `from` on, the lowest first
unfoldable pub bits_at : List ℕ → ℕ → ℕ → ℕ
bits_at memory from zero = 0
bits_at memory from (suc count) = bit_at memory from + 2 * bits_at memory (suc from) count

-- the pixel at a place, at any number of bits a pixel
abbrev pub pixel_at : ℕ → List ℕ → ℕ → ℕ
pixel_at bits memory place = bits_at memory (place * bits) bits

-- the byte that it stands in, and the pixel out of that byte
abbrev pub byte_of : ℕ → ℕ → ℕ
byte_of bits place = place * bits / 8

abbrev pub pixel_in : ℕ → ℕ → ℕ → ℕ
pixel_in bits byte place = byte / 2 ^ (place * bits % 8) % 2 ^ bits

-- refusal 20: that pixel ends beyond the memory
abbrev pub ends_beyond : ℕ → List ℕ → ℕ → Bool
ends_beyond bits memory place = ltb (8 * length memory) ((place + 1) * bits)

-- the pixel shown from a place: with transfers switched off every pixel is 0
unfoldable pub pixel_shown : ℕ → List ℕ → ℕ → ℕ
pixel_shown control memory place = cond (transferring control) (pixel_at (pixel_bits control) memory place) 0
