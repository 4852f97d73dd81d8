-- The register file (01, "Register map"): what stands at each place, and the file after a store. Assumes nothing.
use Rattle.std.specs.Prelude.{ℕ, ◌%◌, ◌^◌, ◌≤◌, ◌≡◌, cond, List, [], ◌∷◌, length, get_or, set, replicate}
use Rattle.registers.specs.declared.map.Place.{Place}
use Rattle.registers.specs.declared.Registers.{Registers}
use Rattle.registers.specs.declared.Numbers.{Numbers}
use Rattle.registers.specs.declared.Tables.{Tables}
use Rattle.registers.specs.Map.{row_of, number_in_row, is_store}

-- all registers begin at 0
unfoldable pub zeros : Registers
zeros =
    record {
      params = replicate 14 0;
      mask = 0;
      control = 0;
      top = 0;
      colours = replicate 3 0;
      position = 0;
      palette = replicate 256 0;
      store = replicate 512 0;
    }

-- the registers that a tick asks for a number
abbrev pub numbers_of : Registers → Numbers
numbers_of r = record { params = r.params; mask = r.mask; control = r.control; top = r.top; position = r.position }

-- the file that has these numbers, cursor colours, palette and cursor store; and one of these numbers alone
abbrev pub file_of : Numbers → List ℕ → List ℕ → List ℕ → Registers
file_of n colours palette store =
    record {
      params = n.params;
      mask = n.mask;
      control = n.control;
      top = n.top;
      colours = colours;
      position = n.position;
      palette = palette;
      store = store;
    }

abbrev pub bare : Numbers → Registers
bare n = file_of n [] [] []

-- the same of tables that are lent; and tables that a file lends
abbrev pub file_with : Numbers → Tables → Registers
file_with n t = file_of n t.colours.now t.palette.now t.store.now

abbrev pub Lends : Registers → Tables → Type 0
Lends r t = (t.colours.now ≡ r.colours) × (t.palette.now ≡ r.palette) × (t.store.now ≡ r.store)

-- the file as the rows of the map; a checksum does not stand in it
abbrev pub rows : Registers → List (List ℕ)
rows r =
    r.params ∷
    (r.mask ∷ []) ∷
    (r.control ∷ []) ∷
    (r.top ∷ []) ∷
    r.colours ∷
    [] ∷
    (r.position ∷ []) ∷
    r.palette ∷
    r.store ∷
    []

-- and back
abbrev pub file : List (List ℕ) → Registers
file l =
    record {
      params = get_or l 0 [];
      mask = get_or (get_or l 1 []) 0 0;
      control = get_or (get_or l 2 []) 0 0;
      top = get_or (get_or l 3 []) 0 0;
      colours = get_or l 4 [];
      position = get_or (get_or l 6 []) 0 0;
      palette = get_or l 7 [];
      store = get_or l 8 [];
    }

-- the registers of a place's row
abbrev pub row_in : Registers → Place → List ℕ
row_in r p = get_or (rows r) (row_of p) []

-- what stands at a place; 0 where nothing stands in the file
unfoldable pub value_in : Registers → Place → ℕ
value_in r p = get_or (row_in r p) (number_in_row p) 0

-- what a place keeps of a value: the cursor store has 16 bits
abbrev pub kept_at : Place → ℕ → ℕ
kept_at p v = cond (is_store p) (v % 2 ^ 16) v

-- the file with a value at a place, and every other register as it was; the same file where the place is not in it
unfoldable pub store_in : Registers → Place → ℕ → Registers
store_in r p v = file (set (rows r) (row_of p) (set (row_in r p) (number_in_row p) (kept_at p v)))

-- what every register file of the machine satisfies: its arrays' lengths, and each register within its width
pub record InWidths (r : Registers) : Type 0 where
  pub params_length : length r.params ≡ 14
  pub colours_length : length r.colours ≡ 3
  pub palette_length : length r.palette ≡ 256
  pub store_length : length r.store ≡ 512
  pub params : (k : ℕ) → get_or r.params k 0 ≤ 0xFFFFFF
  pub mask : r.mask ≤ 0xFFFFFF
  pub control : r.control ≤ 0xFFFFFF
  pub top : r.top ≤ 0xFFFFFF
  pub colours : (k : ℕ) → get_or r.colours k 0 ≤ 0xFFFFFF
  pub position : r.position ≤ 0xFFFFFF
  pub palette : (k : ℕ) → get_or r.palette k 0 ≤ 0xFFFFFF
  pub store : (k : ℕ) → get_or r.store k 0 ≤ 0xFFFF
