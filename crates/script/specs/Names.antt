-- The names of a script's commands (docs/SCRIPT.md), and what a command of each does. Assumes nothing.
use Rattle.std.specs.Prelude.{ℕ, suc, cond, List, [], ◌∷◌, get_or}
use Rattle.vault.specs.Compare.{match}
use Rattle.script.specs.declared.names.Kind.{Kind}
use Rattle.script.specs.declared.names.Kind.TheVariants.{WritesRegister, ChangesMemory, RunsTicks, DrawsPicture, OnlyAsks}

-- the names, in docs/SCRIPT.md's order
abbrev pub names : List (List ℕ)
names =
    (119 ∷ 114 ∷ 105 ∷ 116 ∷ 101 ∷ []) ∷  -- write
    (114 ∷ 101 ∷ 97 ∷ 100 ∷ []) ∷  -- read
    (109 ∷ 101 ∷ 109 ∷ 111 ∷ 114 ∷ 121 ∷ []) ∷  -- memory
    (112 ∷ 111 ∷ 107 ∷ 101 ∷ []) ∷  -- poke
    (102 ∷ 105 ∷ 108 ∷ 108 ∷ []) ∷  -- fill
    (116 ∷ 105 ∷ 99 ∷ 107 ∷ []) ∷  -- tick
    (114 ∷ 117 ∷ 110 ∷ []) ∷  -- run
    (112 ∷ 105 ∷ 99 ∷ 116 ∷ 117 ∷ 114 ∷ 101 ∷ []) ∷  -- picture
    (110 ∷ 105 ∷ 110 ∷ 101 ∷ []) ∷  -- nine
    (115 ∷ 104 ∷ 101 ∷ 101 ∷ 116 ∷ []) ∷  -- sheet
    (102 ∷ 105 ∷ 101 ∷ 108 ∷ 100 ∷ []) ∷  -- field
    (115 ∷ 116 ∷ 111 ∷ 114 ∷ 101 ∷ []) ∷  -- store
    (99 ∷ 111 ∷ 109 ∷ 112 ∷ 97 ∷ 114 ∷ 101 ∷ []) ∷  -- compare
    []

-- the place of a word among names, from a number on
unfoldable pub name_from : ℕ → List (List ℕ) → List ℕ → ℕ
name_from k [] word = k
name_from k (name ∷ later) word = cond (match word name) k (name_from (suc k) later word)

-- a word's name: its place in that order, or 13
abbrev pub name_of : List ℕ → ℕ
name_of word = name_from 0 names word

-- by name, what a command does; what is no name only asks
abbrev pub kinds : List Kind
kinds =
    WritesRegister ∷  -- write
    OnlyAsks ∷  -- read
    ChangesMemory ∷  -- memory
    ChangesMemory ∷  -- poke
    ChangesMemory ∷  -- fill
    RunsTicks ∷  -- tick
    RunsTicks ∷  -- run
    DrawsPicture ∷  -- picture
    OnlyAsks ∷  -- nine
    OnlyAsks ∷  -- sheet
    OnlyAsks ∷  -- field
    OnlyAsks ∷  -- store
    OnlyAsks ∷  -- compare
    []

abbrev pub kind_of : ℕ → Kind
kind_of name = get_or kinds name OnlyAsks

-- by what it does, one of several
abbrev pub by_kind : {A : Type 0} → Kind → A → A → A → A → A → A
by_kind WritesRegister writes changes runs draws asks = writes
by_kind ChangesMemory writes changes runs draws asks = changes
by_kind RunsTicks writes changes runs draws asks = runs
by_kind DrawsPicture writes changes runs draws asks = draws
by_kind OnlyAsks writes changes runs draws asks = asks
