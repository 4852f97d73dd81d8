-- A line taken out of a piece: up to the first LF, and so far as the room has place. Assumes nothing.
use Prim.Native.Nat.{ℕ, suc, ◌+◌, ◌-◌, ◌≤◌, ◌<◌, min}
use mathlib.Core.Bool.{Bool, true, false, not, cond}
use mathlib.Core.List.{List, [], ◌∷◌}
use mathlib.Core.Path.{◌≡◌, refl, sym, ap, ◌∙◌}
use native.Mathlib.Omega.{arith}
use lib.Dec.{eqb, ltb}
use lib.ListN.{length, take, drop}
use mir.Val.{bool_byte}
use borrow.Author.Tests.{lt-ltb, le-ltb, ltb-true, ltb-false}
use Rattle.std.proofs.lemmas.Grind.{common_steps}
use Rattle.std.proofs.lemmas.List.{take_all, take_rest, length-take, nil_from_length, drop-drop, drop_all, append-nil, append_assoc}
use Rattle.std.proofs.lemmas.List.Edits.{sets, sets-eq}
use Rattle.std.proofs.lemmas.Bool.{cases_lt}
use mathlib.Core.Logic.{⊎_elim}
use borrow.Rule.Slice.PartMut.{put_mid}
use Rattle.std.specs.Prelude.{Option, None, Some, position, is_some}
use Rattle.std.specs.Io.KnownBytes.{Consumes}
use Rattle.std.specs.Option.{unwrap_or}
use Rattle.std.specs.List.{position_or_len}
use Rattle.std.specs.Io.KnownBytes.{Consumes}
use Rattle.input.specs.Input.{up_to_end, has_end, taken_line, taken_room}
use Rattle.input.specs.declared.Taken.{Taken}

-- the place of the first LF, or the length
abbrev first : List ℕ → ℕ
first = position_or_len (λ byte. eqb byte 10)

up_to_first : (bytes : List ℕ) → up_to_end bytes ≡ take (first bytes) bytes
unfolding up_to_end
up_to_first [] = refl
up_to_first (byte ∷ rest) = go (eqb byte 10) (up_to_first rest)
  where
    go : (t : Bool) → up_to_end rest ≡ take (first rest) rest → cond t [] (byte ∷ up_to_end rest) ≡ take (cond (not t) (1 + first rest) 0) (byte ∷ rest)
    go true e = refl
    go false e = let next : 1 + first rest ≡ suc (first rest) = omega arith in rw (next, ← e)

one_on : (n m : ℕ) → ltb n m ≡ ltb (1 + n) (suc m)
one_on n m = go (ltb n m) refl
  where
    go : (t : Bool) → ltb n m ≡ t → t ≡ ltb (1 + n) (suc m)
    go true e = sym (lt-ltb _ _ (omega (arith, ltb-true n m e)))
    go false e = sym (le-ltb _ _ (omega (arith, ltb-false n m e)))

has_first : (bytes : List ℕ) → has_end bytes ≡ ltb (first bytes) (length bytes)
unfolding has_end
has_first [] = refl
has_first (byte ∷ rest) = go (eqb byte 10) (has_first rest)
  where
    go : (t : Bool) → has_end rest ≡ ltb (first rest) (length rest) → cond t true (has_end rest) ≡ ltb (cond (not t) (1 + first rest) 0) (suc (length rest))
    go true e = sym (lt-ltb 0 (suc (length rest)) (omega arith))
    go false e = e ∙ one_on (first rest) (length rest)

-- the text in front of the first LF, and whether there is one
module _ (bytes : List ℕ) (end : Option ℕ) (h : end ≡ position (λ byte. eqb byte 10) bytes) where
  found : is_some end ≡ has_end bytes
  found = rw (h, has_first bytes) (go (ltb (first bytes) (length bytes)))
    where
      go : (t : Bool) → is_some (cond t (Some (first bytes)) None) ≡ t
      go true = refl
      go false = refl

  text_of : take (unwrap_or end (length bytes)) bytes ≡ up_to_end bytes
  text_of = rw (h, up_to_first bytes) (go (ltb (first bytes) (length bytes)) refl)
    where
      go : (t : Bool) → ltb (first bytes) (length bytes) ≡ t → take (unwrap_or (cond t (Some (first bytes)) None) (length bytes)) bytes ≡ take (first bytes) bytes
      go true e = refl
      go false e = take_all (length bytes) bytes (omega arith) ∙ sym (take_all (first bytes) bytes (ltb-false _ _ e))

-- from a place on, and so far as there is place
from_place : (l : List ℕ) (n m : ℕ) → m ≡ min n (length l) → drop m l ≡ drop n l
from_place l n m e = grind (arith, common_steps)

to_place : (l : List ℕ) (n m : ℕ) → m ≡ min (length l) n → take m l ≡ take n l
to_place l n m e = grind (arith, common_steps)

part_set : (room part : List ℕ) (count at k : ℕ) → at ≡ min count (length room) → k ≡ length part → length part ≤ length room - count → put_mid at k room part ≡ sets room count part
part_set room part count at k ea ek h = ⊎_elim past within (cases_lt (length room) count)
  where
    past : length room < count → put_mid at k room part ≡ sets room count part
    past l =
        let none : part ≡ [] = nil_from_length part (omega arith) in
        let gone : drop k (drop at room) ≡ [] = drop-drop k at room ∙ drop_all (at + k) room (omega arith) in
        rw (none, take_all at room (omega arith), gone) (append-nil room)

    within : count ≤ length room → put_mid at k room part ≡ sets room count part
    within l =
        let same : at ≡ count = omega arith in
        rw (same, ek, sets-eq part room count (omega arith), drop-drop (length part) count room) (sym (append_assoc (take count room) part (drop (count + length part) room)))

same_taken : (a b c d : ℕ) (e f : Bool) → a ≡ b → c ≡ d → e ≡ f → ◌≡◌ {A = Taken} (record { at = a; length = c; ended = e }) (record { at = b; length = d; ended = f })
same_taken a b c d e f p q r = cc

byte_is : (b : Bool) → bool_byte b ≡ cond b 1 0
byte_is true = refl
byte_is false = refl

module _ (piece room : List ℕ) (from count m at placed : ℕ) (end : Option ℕ) (ended : Bool) (rest text : List ℕ) (em : m ≡ min from (length piece)) (er : rest ≡ take (length piece - m) (drop m piece)) (ee : end ≡ position (λ byte. eqb byte 10) rest) (et : text ≡ take (unwrap_or end (length rest)) rest) (ed : ended ≡ is_some end) (ea : at ≡ min count (length room)) (ep : placed ≡ min (length text) (length room - at)) where
  rest_is : rest ≡ drop from piece
  rest_is = er ∙ take_rest piece m ∙ from_place piece from m em

  text_is : text ≡ up_to_end (drop from piece)
  text_is = et ∙ text_of rest end ee ∙ ap up_to_end rest_is

  ended_is : ended ≡ has_end (drop from piece)
  ended_is = ed ∙ found rest end ee ∙ ap has_end rest_is

  placed_is : take placed text ≡ take (length room - count) (up_to_end (drop from piece))
  placed_is = to_place text (length room - count) placed (omega arith) ∙ rw text_is

  taken : (one : ℕ) → one ≡ bool_byte ended → record { at = from + length text + one; length = count + placed; ended = ended } ≡ taken_line piece from room count
  unfolding taken_line
  taken one eo =
      let size : length text ≡ length (up_to_end (drop from piece)) = ap length text_is in
      let last : one ≡ cond (has_end (drop from piece)) 1 0 = eo ∙ byte_is ended ∙ ap (λ (b : Bool). cond b 1 0) ended_is in
      let part : length (take (length room - count) (up_to_end (drop from piece))) ≡ min (length room - count) (length (up_to_end (drop from piece))) = length-take _ _ in
      same_taken _ _ _ _ _ _ (omega arith) (omega arith) ended_is

  room_taken : (part : List ℕ) (k : ℕ) → part ≡ take placed text → k ≡ placed → put_mid at k room part ≡ taken_room piece from room count
  unfolding taken_room
  room_taken part k e ek =
      let size : length part ≡ min placed (length text) = ap length e ∙ length-take _ _ in
      part_set room part count at k ea (omega arith) (omega arith) ∙ ap (sets room count) (e ∙ placed_is)

  pub line_taken : (one k : ℕ) (part : List ℕ) → one ≡ bool_byte ended → part ≡ take placed text → k ≡ placed → (record { at = from + length text + one; length = count + placed; ended = ended } ≡ taken_line piece from room count) × (put_mid at k room part ≡ taken_room piece from room count)
  line_taken one k part eo e ek = (taken one eo, room_taken part k e ek)

-- a turn that reads nothing leaves what a reader has left
pub none_taken : (known : Option (List ℕ)) → Consumes known known []
none_taken None = tt
none_taken (Some left) = refl
