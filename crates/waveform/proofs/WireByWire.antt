-- The texts of many wires, put wire by wire. Assumes nothing.
use Prim.Native.Nat.{ℕ, ◌+◌, ◌≤◌, ◌<◌}
use mathlib.Core.List.{List, map}
use mathlib.Core.Path.{◌≡◌}
use lib.ListN.{length, get_or, drop}
use Rattle.std.proofs.Common.{add-one, drop-cons}
use Rattle.std.proofs.lemmas.List.{drop_all}
use Rattle.room.specs.Room.{put_text, put_end, put_texts, put_ends}

module _ {W : Type 0} (text : W → List ℕ) (wires : List W) (room : List ℕ) (at : ℕ) where
  -- what is left to put, from a wire on, leads to where all of it leads
  pub record Left (i : ℕ) (after : List ℕ) (end : ℕ) : Type 0 where
    pub place : put_ends after end (map text (drop i wires)) ≡ put_ends room at (map text wires)
    pub bytes : put_texts after end (map text (drop i wires)) ≡ put_texts room at (map text wires)

  pub left_next : (i : ℕ) (d : W) (between after : List ℕ) (middle end : ℕ) → Left i between middle → i < length wires → end ≡ put_end between middle (length (text (get_or wires i d))) → after ≡ put_text between middle (text (get_or wires i d)) → Left (i + 1) after end
  unfolding put_texts put_ends
  left_next i d between after middle end left h e f =
      record {
        place = rw (e, f, add-one) (rw (drop-cons wires i d) at left.place);
        bytes = rw (e, f, add-one) (rw (drop-cons wires i d) at left.bytes);
      }

  pub left_none : (i : ℕ) (after : List ℕ) (end : ℕ) → Left i after end → length wires ≤ i → (end ≡ put_ends room at (map text wires)) × (after ≡ put_texts room at (map text wires))
  unfolding put_texts put_ends
  left_none i after end left h = (rw drop_all at left.place, rw drop_all at left.bytes)
