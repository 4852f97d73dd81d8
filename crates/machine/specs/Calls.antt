-- The machine's own calls, and a list of them. Assumes nothing.
use Rattle.std.specs.Prelude.{ℕ, suc, List, [], ◌∷◌, ◌≡◌}
use Rattle.machine.specs.Rules.{written, answered, advanced}
use Rattle.machine.specs.declared.Machine.{Machine}

pub data Call : Type 0 where
  write : ℕ → ℕ → Call
  read : ℕ → Call
  tick : List ℕ → Call

-- the machine after a call, and after a list of them
abbrev pub after_call : Machine → Call → Machine
after_call m (write address value) = (written m address value).machine
after_call m (read address) = (answered m address).machine
after_call m (tick memory) = (advanced m memory).machine

abbrev pub after_all : Machine → List Call → Machine
after_all m [] = m
after_all m (call ∷ rest) = after_all (after_call m call) rest

-- values written from an address on, one after the other
abbrev pub writes_from : ℕ → List ℕ → List Call
writes_from address [] = []
writes_from address (value ∷ rest) = write address value ∷ writes_from (suc address) rest

-- a call is no accepted write at an address
abbrev pub Spares : ℕ → Machine → Call → Type 0
Spares a m (write address value) = (written m address value).refusal ≡ 0 → address ≡ a → ⊥
Spares a m (read address) = Unit
Spares a m (tick memory) = Unit
