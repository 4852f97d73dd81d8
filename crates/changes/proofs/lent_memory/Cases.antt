-- What each command leaves, by its name. Assumes nothing.
use Prim.Native.Nat.{ℕ}
use mathlib.Core.List.{List}
use mathlib.Core.Path.{◌≡◌, refl}
use mathlib.Core.Bool.{false}
use lib.Dec.{eqb}
use borrow.Author.Tests.{eq-eqb, ne_eqb}
use Rattle.room.specs.Room.{put_text}
use Rattle.room.specs.Bytes.{fill_memory, poke_bytes}
use Rattle.changes.specs.LentMemory.{number, memory_after, lent_after}
use Rattle.script.specs.declared.command.Command.{Command}

module _ (c : Command) (before : ℕ) (memory after : List ℕ) where
  pub change_memory : c.name ≡ 2 → after ≡ fill_memory memory 0 (number c 0) 0 0 → (number c 0 ≡ lent_after c before) × (after ≡ memory_after c memory)
  unfolding memory_after lent_after
  change_memory h e = let t = eq-eqb c.name 2 h in (rw t refl, rw t e)

  module _ (h : c.name ≡ 2 → ⊥) where
    pub change_poke : c.name ≡ 3 → after ≡ put_text memory (number c 0) (poke_bytes c.left.values c.left.count) → (before ≡ lent_after c before) × (after ≡ memory_after c memory)
    unfolding memory_after lent_after
    change_poke k e = let t = ne_eqb c.name 2 h in (rw t refl, rw (t, eq-eqb c.name 3 k) e)

    pub change_fill : c.name ≡ 4 → after ≡ fill_memory memory (number c 0) (number c 1) (number c 2) (number c 3) → (before ≡ lent_after c before) × (after ≡ memory_after c memory)
    unfolding memory_after lent_after
    change_fill k e = let t = ne_eqb c.name 2 h in let p : eqb c.name 3 ≡ false = rw k refl in (rw t refl, rw (t, p, eq-eqb c.name 4 k) e)

    pub change_other : (c.name ≡ 3 → ⊥) → (c.name ≡ 4 → ⊥) → after ≡ memory → (before ≡ lent_after c before) × (after ≡ memory_after c memory)
    unfolding memory_after lent_after
    change_other k l e = let t = ne_eqb c.name 2 h in (rw t refl, rw (t, ne_eqb c.name 3 k, ne_eqb c.name 4 l) e)
