-- What writing comes to, for callers: which values are taken, and both round trips. Assumes nothing.
use Prim.Native.Nat.{ℕ, zero, suc, ◌≤◌}
use mathlib.Core.Path.{◌≡◌, refl, ◌∙◌}
use mathlib.Core.Bool.{false}
use mathlib.Core.List.{List, [], ◌∷◌, ◌++◌, append-nil}
use native.Mathlib.Omega.{arith}
use borrow.Author.Tests.{le-ltb, ltb-false}
use lib.Dec.{ltb}
use lib.ListN.{length, get_or, take, drop, drop_of_length-le}
use lib.Seq.{take-append_seam}
use Rattle.sheet.specs.Encoding.{encoding, over, Bytes}
use Rattle.sheet.proofs.tags.Laws.{length_encoding}
use Rattle.sheet.specs.Reader.{read_sheet}
use Rattle.sheet.proofs.Laws.{encoding_accepted, accepted_encoding}
use Rattle.sheet.specs.Writer.{write_refusal, room_written}
use Rattle.sheet.specs.declared.Sheet.{Sheet}
use Rattle.base.proofs.Bools.{neither_holds, link_passed}

-- no value is over 65,535
pub within : (values : List ℕ) → over values ≡ false → (k : ℕ) → get_or values k 0 ≤ 65535
unfolding over
within [] e k = omega arith
within (value ∷ values) e zero = omega (arith, ltb-false 65535 value (neither_holds (ltb 65535 value) (over values) e).0)
within (value ∷ values) e (suc k) = within values (neither_holds (ltb 65535 value) (over values) e).1 k

-- a write is accepted only where no value is over and the room is large enough
pub taken : (values room : List ℕ) → write_refusal values room ≡ 0 → (over values ≡ false) × (70 ≤ length room)
taken values room e =
    let small = link_passed (over values) 33 _ e in
    (small.0, ltb-false _ _ (link_passed (ltb (length room) 70) 34 0 small.1).0)

-- ---- the two round trips
accepted_written : (values room : List ℕ) → over values ≡ false → 70 ≤ length room → room_written values room ≡ encoding values ++ drop 70 room
accepted_written values room small size = simp (small, le-ltb (length room) 70 size)

-- the values written into a room of 70 bytes are read back
pub read_written : (values room : List ℕ) → length values ≡ 14 → over values ≡ false → length room ≡ 70 → ◌≡◌ {A = Sheet} (read_sheet (room_written values room)) (record { refusal = 0; values = values })
read_written values room fourteen small size =
    rw (accepted_written values room small (omega arith), drop_of_length-le room {i = 70} (omega arith), append-nil)
    (encoding_accepted values (encoding values) (record { fourteen = fourteen; small = small; bytes = refl }))

-- and from the first 70 bytes of any room that takes them
pub read_front : (values room : List ℕ) → length values ≡ 14 → over values ≡ false → 70 ≤ length room → ◌≡◌ {A = Sheet} (read_sheet (take 70 (room_written values room))) (record { refusal = 0; values = values })
read_front values room fourteen small size =
    rw (accepted_written values room small size, ← length_encoding values fourteen, take-append_seam)
    (encoding_accepted values (encoding values) (record { fourteen = fourteen; small = small; bytes = refl }))

-- the values of a good sheet, written into any room that takes them, are the sheet's bytes again
pub written_read : (sheet room : List ℕ) → Bytes sheet → (read_sheet sheet).refusal ≡ 0 → 70 ≤ length room → room_written (read_sheet sheet).values room ≡ sheet ++ drop 70 room
written_read sheet room small e size =
    let whole = accepted_encoding sheet small e in
    accepted_written (read_sheet sheet).values room whole.small size ∙ rw whole.bytes
