-- Bytes laid into a room, one after the other. Assumes nothing.
use Prim.Native.Nat.{ℕ, zero, suc, ◌+◌, ◌-◌, ◌≤◌, ◌<◌}
use mathlib.Core.List.{List, [], ◌∷◌, ◌++◌, append_assoc, append-nil}
use mathlib.Core.Path.{◌≡◌, refl, sym, ◌∙◌}
use native.Mathlib.Numerals.{add-one}
use native.Mathlib.Omega.{arith}
use mathlib.Core.Path.{ap}
use lib.ListN.{length, get_or, set, take, drop, length-drop, drop_of_length-le}
use lib.Seq.{drop-cons, set_at, take-suc}
use Rattle.std.proofs.lemmas.List.{set-append_right, take-append-drop, length-take-le, take_all}
use borrow.Rule.Slice.PartMut.{put_mid}
use Rattle.room.specs.Room.{laid, put_text, put_end, texts_of, put_texts, put_ends}

module _ (byte : ℕ → ℕ) (room : List ℕ) (at : ℕ) where
  pub laid_none : room ≡ laid byte room at 0
  unfolding laid
  laid_none = refl

  pub laid_next : (i : ℕ) (now : List ℕ) (b : ℕ) → now ≡ laid byte room at i → b ≡ byte i → set now (at + i) b ≡ laid byte room at (i + 1)
  unfolding laid
  laid_next i now b e h = rw (add-one i, ← e, h)

  -- bytes laid one by one are the first of a list of them, in the place of what stood there
  laid_part : (bytes : List ℕ) (n : ℕ) → n ≤ length bytes → at + n ≤ length room → ((i : ℕ) → i < n → get_or bytes i 0 ≡ byte i) → laid byte room at n ≡ put_mid at n room (take n bytes)
  unfolding laid
  laid_part bytes zero h k e = sym (take-append-drop at room)
  laid_part bytes (suc n) h k e =
      let there : n < length (drop at room) = omega (arith, length-drop at room) in
      let past : at + n - at ≡ n = omega arith in
      rw (laid_part bytes n (omega arith) (omega arith) (λ i l. e i (omega arith)), set-append_right (take at room) _ at (at + n) (byte n) (length-take-le at room (omega arith)) (omega arith), past)
      (ap (λ (l : List ℕ). take at room ++ l) (rw (drop-cons (drop at room) n 0 there, set_at (take n bytes) (get_or (drop at room) n 0) (drop (suc n) (drop at room)) (byte n) n (length-take-le n bytes (omega arith)), take-suc bytes n 0 h, e n (omega arith)) (sym (append_assoc (take n bytes) (byte n ∷ []) (drop (suc n) (drop at room))))))

  pub laid_over : (part : List ℕ) (n k : ℕ) → length part ≡ n → k ≡ n → at + n ≤ length room → ((i : ℕ) → i < n → get_or part i 0 ≡ byte i) → put_mid at k room part ≡ laid byte room at n
  laid_over part n k e f h g = rw f (sym (laid_part part n (omega arith) h g ∙ ap (put_mid at n room) (take_all n part (omega arith))))

-- bytes laid over a whole room
pub laid_whole : (byte : ℕ → ℕ) (room part : List ℕ) (n : ℕ) → length part ≡ n → length room ≡ n → ((i : ℕ) → i < n → get_or part i 0 ≡ byte i) → part ≡ laid byte room 0 n
laid_whole byte room part n e f g = sym (append-nil part) ∙ rw (← drop_of_length-le room {i = n} (omega arith)) (laid_over byte room 0 part n n e refl (omega arith) g)

-- what a call has put: the place past its texts, and the room after them
pub record Puts (room : List ℕ) (at : ℕ) (texts : List (List ℕ)) (after : List ℕ) (end : ℕ) : Type 0 where
  pub place : end ≡ put_ends room at texts
  pub bytes : after ≡ put_texts room at texts

module _ (room : List ℕ) (at : ℕ) (after : List ℕ) (end : ℕ) where
  pub put_one : (text : List ℕ) → end ≡ put_end room at (length text) → after ≡ put_text room at text → Puts room at (text ∷ []) after end
  unfolding put_texts put_ends
  put_one text e f = record { place = e; bytes = f }

  pub put_some : (texts : List (List ℕ)) → end ≡ put_ends room at texts → after ≡ put_texts room at texts → Puts room at texts after end
  put_some texts e f = record { place = e; bytes = f }

-- texts put after others go on where those ended
append : (firsts laters : List (List ℕ)) (room : List ℕ) (at : ℕ) → (put_ends room at (firsts ++ laters) ≡ put_ends (put_texts room at firsts) (put_ends room at firsts) laters) × (put_texts room at (firsts ++ laters) ≡ put_texts (put_texts room at firsts) (put_ends room at firsts) laters)
unfolding put_texts put_ends
append [] laters room at = (refl, refl)
append (text ∷ rest) laters room at = append rest laters (put_text room at text) (put_end room at (length text))

pub ends_append : (firsts laters : List (List ℕ)) (room : List ℕ) (at : ℕ) → put_ends room at (firsts ++ laters) ≡ put_ends (put_texts room at firsts) (put_ends room at firsts) laters
ends_append firsts laters room at = (append firsts laters room at).0

pub texts_append : (firsts laters : List (List ℕ)) (room : List ℕ) (at : ℕ) → put_texts room at (firsts ++ laters) ≡ put_texts (put_texts room at firsts) (put_ends room at firsts) laters
texts_append firsts laters room at = (append firsts laters room at).1

pub texts_next : (texts : ℕ → List (List ℕ)) (i : ℕ) → texts_of texts (i + 1) ≡ texts_of texts i ++ texts i
unfolding texts_of
texts_next texts i = rw (add-one i)

-- for `grind`: texts put one after the other, and those of many things
pub ruleset puts = (ends_append, texts_append, texts_next)

pub put_joined : {room between after : List ℕ} {firsts laters : List (List ℕ)} {at middle end : ℕ} → Puts room at firsts between middle → Puts between middle laters after end → Puts room at (firsts ++ laters) after end
put_joined {room} {firsts = firsts} {laters = laters} {at = at} first later =
    let joined = append firsts laters room at in
    record {
      place = rw (first.place, first.bytes) at later.place ∙ sym joined.0;
      bytes = rw (first.place, first.bytes) at later.bytes ∙ sym joined.1;
    }

-- no text put
pub none_put : (room : List ℕ) (at : ℕ) → (at ≡ put_ends room at []) × (room ≡ put_texts room at [])
unfolding put_texts put_ends
none_put room at = (refl, refl)

-- the texts of many things, put thing by thing
module _ (texts : ℕ → List (List ℕ)) (room : List ℕ) (at : ℕ) where
  pub some_none : Puts room at (texts_of texts 0) room at
  unfolding texts_of put_texts put_ends
  some_none = record { place = refl; bytes = refl }

  pub some_next : (i : ℕ) (between after : List ℕ) (middle end : ℕ) → Puts room at (texts_of texts i) between middle → Puts between middle (texts i) after end → Puts room at (texts_of texts (i + 1)) after end
  unfolding texts_of
  some_next i between after middle end first later = rw (add-one i) (put_joined first later)
