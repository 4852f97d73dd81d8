-- How two lists of colours put out may differ (02, Q-1). xs, ys: the two lists, pixel by pixel. Assumes nothing.
use Rattle.std.specs.Prelude.{ℕ, ◌+◌, ◌-◌, ◌/◌, ◌%◌, ◌^◌, ◌≤◌, ◌<◌, Bool, cond, List, [], ◌∷◌, ◌≡◌, eqb, length, get_or}
use Rattle.vault.specs.Nine.{channels}

-- equally many that differ in exactly one
pub record OneApart (xs ys : List ℕ) : Type 0 where
  pub as_many : length xs ≡ length ys
  pub place : ℕ
  pub apart : get_or xs place 0 ≡ get_or ys place 0 → ⊥
  pub alike : (i : ℕ) → (i ≡ place → ⊥) → get_or xs i 0 ≡ get_or ys i 0

-- the other with two pixels changed about, and nothing else
pub record ChangedAbout (xs ys : List ℕ) : Type 0 where
  pub as_many : length xs ≡ length ys
  pub one : ℕ
  pub other : ℕ
  pub one_in : one < length xs
  pub other_in : other < length xs
  pub one_gets : get_or ys one 0 ≡ get_or xs other 0
  pub other_gets : get_or ys other 0 ≡ get_or xs one 0
  pub alike : (i : ℕ) → (i ≡ one → ⊥) → (i ≡ other → ⊥) → get_or xs i 0 ≡ get_or ys i 0

-- a colour's byte of a channel: 0 is red, 1 green, 2 blue
abbrev pub byte_in : ℕ → ℕ → ℕ
byte_in channel colour = get_or (channels colour) channel 0

-- the total of a channel's bytes
unfoldable pub total : ℕ → List ℕ → ℕ
total channel [] = 0
total channel (x ∷ xs) = byte_in channel x + total channel xs

-- by how much a channel's bytes rise from pixel to pixel, in all
abbrev pub risen : ℕ → List ℕ → List ℕ → ℕ
risen channel [] ys = 0
risen channel (x ∷ xs) [] = 0
risen channel (x ∷ xs) (y ∷ ys) = (byte_in channel y - byte_in channel x) + risen channel xs ys

-- every byte of a channel stays or rises, by less than 2^24 in all and somewhere by something; the other channels may do what they like
pub record Rises (channel : ℕ) (xs ys : List ℕ) : Type 0 where
  pub as_many : length xs ≡ length ys
  pub up : (i : ℕ) → byte_in channel (get_or xs i 0) ≤ byte_in channel (get_or ys i 0)
  pub somewhere : 0 < risen channel xs ys
  pub less : risen channel xs ys < 2 ^ 24

-- every byte of all three channels stays or rises, no channel by 2^24 or more in all, and one somewhere by something
pub record AllRise (xs ys : List ℕ) : Type 0 where
  pub as_many : length xs ≡ length ys
  pub up : (channel i : ℕ) → channel < 3 → byte_in channel (get_or xs i 0) ≤ byte_in channel (get_or ys i 0)
  pub somewhere : 0 < risen 0 xs ys + risen 1 xs ys + risen 2 xs ys
  pub less : (channel : ℕ) → channel < 3 → risen channel xs ys < 2 ^ 24

-- in how many pixels a channel's byte is another
abbrev pub wrong : ℕ → List ℕ → List ℕ → ℕ
wrong channel [] ys = 0
wrong channel (x ∷ xs) [] = 0
wrong channel (x ∷ xs) (y ∷ ys) = cond (eqb (byte_in channel x) (byte_in channel y)) 0 1 + wrong channel xs ys

-- a byte with one of its eight lines, the highest being 7, stuck high or low
abbrev pub stuck_at : Bool → ℕ → ℕ → ℕ
stuck_at high line byte =
    cond (eqb (byte / 2 ^ line % 2) 1) (cond high byte (byte - 2 ^ line)) (cond high (byte + 2 ^ line) byte)

-- a line of a channel stuck, and some pixels wrong by it, but fewer than 131,072
pub record Stuck (channel line : ℕ) (high : Bool) (xs ys : List ℕ) : Type 0 where
  pub as_many : length xs ≡ length ys
  pub stuck : (i : ℕ) → i < length xs → byte_in channel (get_or ys i 0) ≡ stuck_at high line (byte_in channel (get_or xs i 0))
  pub some : 0 < wrong channel xs ys
  pub fewer : wrong channel xs ys < 131072
