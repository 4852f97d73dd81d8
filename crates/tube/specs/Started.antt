-- The machine after the script's register writes, in the order in which they stand there. Assumes nothing.
use Rattle.std.specs.Prelude.{ℕ, Bool, List, [], ◌∷◌, ◌++◌}
use Rattle.machine.specs.Rules.{beginning, written}
use Rattle.machine.specs.Calls.{Call, write, after_all}
use Rattle.machine.specs.declared.Machine.{Machine}
use Rattle.scribe.specs.Settings.{address_of, value_of, settings, start}

-- a table's writes, in order
abbrev pub writes_of : List ℕ → List Call
writes_of [] = []
writes_of (setting ∷ rest) = write (address_of setting) (value_of setting) ∷ writes_of rest

-- what each answers
unfoldable pub refusals : Machine → List ℕ → List ℕ
refusals m [] = []
refusals m (setting ∷ rest) =
    (written m (address_of setting) (value_of setting)).refusal ∷ refusals (written m (address_of setting) (value_of setting)).machine rest

-- every register write of the script, from the beginning on
abbrev pub table : Bool → List ℕ
table interlaced = settings interlaced ++ (start interlaced ∷ [])

unfoldable pub started : Bool → Machine
started interlaced = after_all beginning (writes_of (table interlaced))
