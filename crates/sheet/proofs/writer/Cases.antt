-- What the proofs of `writer` use: a loop keeps what is done, with what is left, equal to the whole. Assumes nothing.
use Prim.Native.Nat.{ℕ, suc, ◌+◌, ◌*◌, ◌≤◌, ◌<◌}
use mathlib.Core.Path.{◌≡◌, ◌∙◌, sym}
use mathlib.Core.Bool.{Bool, ◌||◌, or_assoc, or-false}
use mathlib.Core.List.{List}
use borrow.Author.Tests.{eq-eqb, ne_eqb}
use native.Mathlib.Omega.{arith}
use lib.Dec.{ltb}
use lib.ListN.{length, get_or, drop, drop_of_length-le}
use lib.Seq.{sets, sets-eq}
use Rattle.sheet.specs.Encoding.{tags, field_bytes, fields, encoding, over}
use Rattle.sheet.proofs.tags.Laws.{length_encoding}
use Rattle.sheet.specs.Writer.{write_refusal, room_written}
use Rattle.sheet.proofs.writer.Laws.{taken}
use Rattle.base.proofs.Lists.{left_from}

-- a field is stored
pub stored : (room values whole : List ℕ) (i : ℕ) → i < 14 → length values ≡ 14 → sets room (5 * i) (fields (drop i tags) (drop i values)) ≡ whole → sets (sets room (5 * i) (field_bytes (get_or tags i 0) (get_or values i 0))) (5 * (i + 1)) (fields (drop (i + 1) tags) (drop (i + 1) values)) ≡ whole
unfolding fields
stored room values whole i h l kept =
    let e : 5 * (i + 1) ≡ suc (suc (suc (suc (suc (5 * i))))) = omega arith in
    rw e (rw (left_from tags i, left_from values i (omega arith)) at kept)

-- a room that took every field, and one that was refused
pub full : (room values after : List ℕ) (i : ℕ) → i ≡ 14 → length values ≡ 14 → write_refusal values room ≡ 0 → sets after (5 * i) (fields (drop i tags) (drop i values)) ≡ sets room 0 (encoding values) → after ≡ room_written values room
unfolding fields
full room values after i e l z kept =
    let size = length_encoding values l in
    let fits = (taken values room z).1 in
    rw (eq-eqb (write_refusal values room) 0 z) ((rw e at kept) ∙ sets-eq (encoding values) room 0 (omega arith) ∙ rw size)

pub left_alone : (room values : List ℕ) (refusal : ℕ) → refusal ≡ write_refusal values room → (refusal ≡ 0 → ⊥) → room ≡ room_written values room
left_alone room values refusal e n = rw (ne_eqb (write_refusal values room) 0 (λ z. n (e ∙ z)))
