-- What keeps an ear from the wrong record: which entry each pixel is drawn in, and that picture memory holds it. Assumes nothing.
use Prim.Native.Nat.{ℕ, zero, suc, ◌+◌, ◌*◌, ◌-◌, ◌/◌, ◌%◌, ◌^◌, ◌≤◌, ◌<◌, min}
use mathlib.Core.Path.{◌≡◌, refl, sym, ap, ◌∙◌}
use mathlib.Core.Bool.{Bool, true, false, cond, true≢false}
use mathlib.Core.List.{List, [], ◌∷◌, ◌++◌, map}
use native.Mathlib.Nat.{add-zero}
use native.Mathlib.Omega.{arith}
use lib.Dec.{leb}
use borrow.Author.Tests.{leb-true, leb-false}
use lib.ListN.{length, get_or, drop, length-append, length-drop, get_or-append, get_or-eq_default}
use lib.Seq.{get_or-append-add, get_or-drop}
use Rattle.base.specs.Count.{run}
use Rattle.base.proofs.Run.{run_length, run_entry}
use Rattle.base.proofs.Some.{some_none, some_at}
use Rattle.memory.specs.Memory.{pixel_at}
use Rattle.memory.proofs.Bytes.{pixel_inside}
use Rattle.marks.specs.Marks.{mark}
use Rattle.marks.specs.Ear.{measured, columns, point_of, last_before, covered_at, shows}
use Rattle.form.specs.Form.{form}
use Rattle.audiogram.specs.Entry.{paper_entry, right_entry, left_entry, form_entry, entry_at}
use Rattle.audiogram.specs.Places.{place_of, holds, pixel_of}
use Rattle.audiogram.specs.Picture.{size, entry_of, byte_at, drawn}
use Rattle.marks.specs.declared.points.Point.{Point}
use Rattle.audiogram.proofs.Places.{place_pixel, place_holds, place_inside}

-- ---- entries

abbrev chain : Bool → Bool → Bool → ℕ
chain a b f = cond a right_entry (cond b left_entry (cond f form_entry paper_entry))

chain_bound : (a b f : Bool) → chain a b f ≤ 3
chain_bound true b f = omega arith
chain_bound false true f = omega arith
chain_bound false false true = omega arith
chain_bound false false false = omega arith

chain_right : (a b f : Bool) → chain a b f ≡ right_entry → a ≡ true
chain_right true b f e = refl
chain_right false true f e = absurd (omega arith)
chain_right false false true e = absurd (omega arith)
chain_right false false false e = absurd (omega arith)

chain_left : (a b f : Bool) → chain a b f ≡ left_entry → (a ≡ false) × (b ≡ true)
chain_left true b f e = absurd (omega arith)
chain_left false true f e = (refl, refl)
chain_left false false true e = absurd (omega arith)
chain_left false false false e = absurd (omega arith)

module _ (right left : List ℕ) (p : Point) where
  pub entry_bound : entry_at right left p ≤ 3
  unfolding entry_at
  entry_bound = chain_bound (shows true right p) (shows false left p) (form p)

  -- THE RIGHT EAR'S ENTRY stands exactly where a mark, a line or the key of the right ear covers the pixel
  pub right_where_shown : shows true right p ≡ true → entry_at right left p ≡ right_entry
  unfolding entry_at
  right_where_shown h = rw h

  pub right_only_shown : entry_at right left p ≡ right_entry → shows true right p ≡ true
  unfolding entry_at
  right_only_shown e = chain_right (shows true right p) (shows false left p) (form p) e

  -- THE LEFT EAR'S ENTRY stands exactly where one of the left ear covers the pixel and none of the right: the right ear lies over the left
  pub left_where_shown : shows true right p ≡ false → shows false left p ≡ true → entry_at right left p ≡ left_entry
  unfolding entry_at
  left_where_shown h k = rw (h, k)

  pub left_only_shown : entry_at right left p ≡ left_entry → (shows true right p ≡ false) × (shows false left p ≡ true)
  unfolding entry_at
  left_only_shown e = chain_left (shows true right p) (shows false left p) (form p) e

-- ---- marks

module _ (side : Bool) (levels : List ℕ) (p : Point) where
  -- an ear's mark at a level that was measured shows
  pub mark_shows : (k : ℕ) → k < 11 → measured (get_or levels k 0) ≡ true → mark side p (point_of levels k) ≡ true → shows side levels p ≡ true
  unfolding shows covered_at
  mark_shows k h m e = rw (some_at (λ j. covered_at side levels p (last_before levels j) j) 11 k h (rw (m, e)))

  -- an ear with no level measured shows nothing
  module _ (none : (k : ℕ) → k < 11 → measured (get_or levels k 0) ≡ false) where
    last_none : (k : ℕ) → k ≤ 11 → last_before levels k ≡ 0
    unfolding last_before
    last_none zero h = refl
    last_none (suc k) h = rw (none k (omega arith)) (last_none k (omega arith))

    pub unmeasured_hidden : shows side levels p ≡ false
    unfolding shows covered_at
    unmeasured_hidden =
        rw (some_none (λ j. covered_at side levels p (last_before levels j) j) 11 (λ k h. rw (none k h)), last_none 11 (omega arith))

module _ (right left : List ℕ) (p : Point) where
  -- a right-ear mark is drawn in the right ear's entry
  pub right_mark : (k : ℕ) → k < 11 → measured (get_or right k 0) ≡ true → mark true p (point_of right k) ≡ true → entry_at right left p ≡ right_entry
  right_mark k h m e = right_where_shown right left p (mark_shows true right p k h m e)

  -- a left-ear mark is drawn in the left ear's, but where the right ear lies over it
  pub left_mark : (k : ℕ) → k < 11 → measured (get_or left k 0) ≡ true → mark false p (point_of left k) ≡ true → entry_at right left p ≡ cond (shows true right p) right_entry left_entry
  unfolding entry_at
  left_mark k h m e = rw (mark_shows false left p k h m e)

  -- an ear with no level measured has no pixel
  pub no_right : ((k : ℕ) → k < 11 → measured (get_or right k 0) ≡ false) → entry_at right left p ≡ right_entry → ⊥
  no_right none e = true≢false (sym (right_only_shown right left p e) ∙ unmeasured_hidden true right p none)

  pub no_left : ((k : ℕ) → k < 11 → measured (get_or left k 0) ≡ false) → entry_at right left p ≡ left_entry → ⊥
  no_left none e = true≢false (sym (left_only_shown right left p e).1 ∙ unmeasured_hidden false left p none)

-- octaves are equally far apart: the columns stand 32 pixels to a half octave, from 125 Hz on
pub columns_octaves : columns ≡ map (λ h. 112 + 32 * h) (0 ∷ 2 ∷ 4 ∷ 5 ∷ 6 ∷ 7 ∷ 8 ∷ 9 ∷ 10 ∷ 11 ∷ 12 ∷ [])
columns_octaves = refl

-- ---- memory

-- one of four pixels out of their byte
unpack : (a b c d j : ℕ) → a ≤ 3 → b ≤ 3 → c ≤ 3 → j < 4 → (a + 4 * b + 16 * c + 64 * d) / 2 ^ (j * 2) % 4 ≡ get_or (a ∷ b ∷ c ∷ d % 4 ∷ []) j 0
unpack a b c d zero p q r h = omega arith
unpack a b c d (suc zero) p q r h = omega arith
unpack a b c d (suc (suc zero)) p q r h = omega arith
unpack a b c d (suc (suc (suc zero))) p q r h = omega arith
unpack a b c d (suc (suc (suc (suc j)))) p q r h = absurd (omega arith)

module _ (n : Bool) (right left : List ℕ) where
  entry_of_bound : (place : ℕ) → entry_of n right left place ≤ 3
  unfolding entry_of
  entry_of_bound place = go (holds n place)
    where
      go : (b : Bool) → cond b (entry_at right left (pixel_of n place)) paper_entry ≤ 3
      go true = entry_bound right left (pixel_of n place)
      go false = omega arith

  module _ (k : ℕ) where
    abbrev entry : ℕ → ℕ
    entry j = entry_of n right left (4 * k + j)

    abbrev first : ℕ
    first = entry_of n right left (4 * k)

    picked : (j : ℕ) → j < 4 → get_or (first ∷ entry 1 ∷ entry 2 ∷ entry 3 % 4 ∷ []) j 0 ≡ entry j
    picked zero h = rw (add-zero (4 * k))
    picked (suc zero) h = refl
    picked (suc (suc zero)) h = refl
    picked (suc (suc (suc zero))) h = omega (arith, entry_of_bound (4 * k + 3))
    picked (suc (suc (suc (suc j)))) h = absurd (omega arith)

    byte_pixel : (j : ℕ) → j < 4 → byte_at n right left k / 2 ^ (j * 2) % 4 ≡ entry j
    unfolding byte_at
    byte_pixel j h =
        unpack first (entry 1) (entry 2) (entry 3) j (entry_of_bound _) (entry_of_bound _) (entry_of_bound _) h ∙ picked j h

module _ (n : Bool) (right left memory : List ℕ) where
  -- the memory keeps its length, and every byte past the picture
  pub drawn_length : length (drawn n right left memory) ≡ length memory
  unfolding drawn
  drawn_length = rw (length-append, run_length, length-drop) (omega arith)

  pub drawn_kept : (k : ℕ) → size n ≤ k → get_or (drawn n right left memory) k 0 ≡ get_or memory k 0
  unfolding drawn
  drawn_kept k h = go (leb (size n) (length memory)) refl
    where
      go : (b : Bool) → leb (size n) (length memory) ≡ b → get_or (drawn n right left memory) k 0 ≡ get_or memory k 0
      go true t =
          let long = leb-true (size n) (length memory) t in
          let whole : min (length memory) (size n) ≡ size n = omega (arith, long) in
          let at : k ≡ length (run (byte_at n right left) 0 (size n)) + (k - size n) = rw run_length (omega arith) in
          let back : size n + (k - size n) ≡ k = omega arith in
          rw whole (ap (λ (i : ℕ). get_or (run (byte_at n right left) 0 (size n) ++ drop (size n) memory) i 0) at
          ∙ get_or-append-add (run (byte_at n right left) 0 (size n)) (drop (size n) memory) (k - size n) 0
          ∙ get_or-drop (size n) memory (k - size n) 0 ∙ ap (λ (i : ℕ). get_or memory i 0) back)
      go false t =
          let short = leb-false (size n) (length memory) t in
          let past : length memory ≤ k = omega (arith, short) in
          let gone : length (drawn n right left memory) ≤ k = rw (drawn_length) past in
          get_or-eq_default (drawn n right left memory) 0 gone ∙ sym (get_or-eq_default memory 0 past)

  -- a byte of the picture
  pub drawn_byte : (k : ℕ) → k < size n → k < length memory → get_or (drawn n right left memory) k 0 ≡ byte_at n right left k
  unfolding drawn
  drawn_byte k h l =
      rw (get_or-append (run (byte_at n right left) 0 (min (length memory) (size n))) (drop (size n) memory) 0 k (rw run_length (omega arith)))
      (run_entry (byte_at n right left) 0 (min (length memory) (size n)) k 0 (omega arith) ∙ ap (byte_at n right left) (omega arith))

  module _ (room : size n ≤ length memory) where
    -- what the machine reads at 2 bits, at a place of the picture
    drawn_place : (place : ℕ) → place < 4 * size n → pixel_at 2 (drawn n right left memory) place ≡ entry_of n right left place
    drawn_place place h =
        let back : 4 * (place / 4) + place % 4 ≡ place = omega arith in
        pixel_inside 4 2 refl place (drawn n right left memory)
        ∙ rw (drawn_byte (place / 4) (omega arith) (omega arith)) (byte_pixel n right left (place / 4) (place % 4) (omega arith))
        ∙ ap (entry_of n right left) back

    -- THE PIXEL THAT THE MACHINE READS at the place of a pixel of the chart has that pixel's entry
    pub drawn_pixel : (p : Point) → p.x < 640 → p.y < 480 → pixel_at 2 (drawn n right left memory) (place_of n p) ≡ entry_at right left p
    unfolding entry_of
    drawn_pixel p h l =
        drawn_place (place_of n p) (place_inside n p h l) ∙ rw (place_holds n p h l) (ap (entry_at right left) (place_pixel n p h l))

    -- and at any other it reads paper
    pub drawn_paper : (place : ℕ) → place < 4 * size n → holds n place ≡ false → pixel_at 2 (drawn n right left memory) place ≡ paper_entry
    unfolding entry_of
    drawn_paper place h e = drawn_place place h ∙ rw e
