-- A row as the code puts it is the row of the file. Assumes nothing.
use Prim.Native.Nat.{ℕ, ◌+◌, ◌-◌, ◌*◌, ◌/◌, ◌%◌, ◌^◌, ◌≤◌, ◌<◌}
use mathlib.Core.Bool.{Bool, true, false, not, cond, ◌||◌}
use mathlib.Core.List.{List, ◌++◌}
use mathlib.Core.Path.{◌≡◌, refl, sym, ◌∙◌}
use native.Mathlib.Nat.{mul-le-mul, zero-add}
use native.Mathlib.Omega.{arith}
use borrow.Author.Tests.{ltb-true, ltb-false, leb-true, lt-ltb, le-ltb}
use lib.Dec.{ltb}
use lib.ListN.{length, get_or, drop}
use lib.Seq.{sets, sets-eq, length-sets}
use Rattle.base.specs.Count.{run}
use Rattle.base.proofs.Bools.{both_hold}
use Rattle.base.proofs.Run.{run_length, run_same}
use Rattle.room.specs.Room.{KeptRoom}
use Rattle.weave.specs.declared.Weave.{Weave}
use Rattle.weave.specs.declared.Part.{Part}
use Rattle.weave.specs.Weave.{pixels_of, is_of_b, along, is_row, lacked, pixel_at, byte_at, byte_of, row_bytes, row_put}
use Rattle.weave.specs.Part.{part_of, byte_in, Small}
use Rattle.weave.proofs.Places.{byte_at_lem}

-- a row that fits has small numbers, and three bytes of room for each pixel
pub row_small : (w : Weave) (row size : ℕ) → true ≡ is_row w row size → Small w row × (3 * w.width ≤ size)
row_small w row size e =
    let fits = both_hold _ _ (sym e) in
    let inside = both_hold _ _ fits.0 in
    let high = both_hold _ _ inside.0 in
    let wide = both_hold _ _ high.0 in
    let half = leb-true w.half w.width (both_hold _ _ wide.0).0 in
    let width = ltb-true w.width 0x10000 wide.1 in
    let lines = ltb-true w.lines 0x10000 high.1 in
    let down = leb-true row w.lines inside.1 in
    let whole = area (w.lines / 2) (omega arith) width in
    let pixels : (b : Bool) → pixels_of w b ≤ 2 ^ 32 = λ b. either b (omega arith) (omega arith) in (
      record {
        half = half;
        width = width;
        whole = whole;
        above = area (row / 2) (omega arith) width;
        start = either (is_of_b row) half (omega arith);
        pixels = pixels (is_of_b row);
        begin = either (is_of_b row) (either w.late (omega arith) (pixels false)) (either w.late (pixels true) (omega arith));
      },
      omega (arith, leb-true w.width (size / 3) fits.1),
    )
  where
    area : (n : ℕ) → n ≤ 0x8000 → w.width < 0x10000 → n * w.width ≤ 2 ^ 31
    area n h k = mul-le-mul {n₂ = 0x8000} {m₂ = 0x10000} h (omega arith)

    either : {a b most : ℕ} (t : Bool) → a ≤ most → b ≤ most → cond t a b ≤ most
    either true h k = h
    either false h k = k

-- a byte is before another pixel's where its own pixel is
before_pixel : (n m channel : ℕ) → channel < 3 → ltb n m ≡ ltb (3 * n + channel) (3 * m)
before_pixel n m channel h = go (ltb n m) refl
  where
    go : (t : Bool) → ltb n m ≡ t → t ≡ ltb (3 * n + channel) (3 * m)
    go true e = sym (lt-ltb (3 * n + channel) (3 * m) (omega (arith, ltb-true n m e)))
    go false e = sym (le-ltb (3 * n + channel) (3 * m) (omega (arith, ltb-false n m e)))

-- a byte that a pixel's place decides, decided by the byte's own
byte_shown : (picture : List ℕ) (start end begin n channel : ℕ) → channel < 3 → cond (ltb n start || not (ltb n end)) 0 (get_or picture (3 * (begin + (n - start)) + channel) 0) ≡ cond (ltb (3 * n + channel) (3 * start) || not (ltb (3 * n + channel) (3 * end))) 0 (get_or picture (3 * begin + (3 * n + channel - 3 * start)) 0)
byte_shown picture start end begin n channel h =
    rw (← before_pixel n start channel h, ← before_pixel n end channel h) (go (ltb n start) refl)
  where
    go : (t : Bool) → ltb n start ≡ t → cond (t || not (ltb n end)) 0 (get_or picture (3 * (begin + (n - start)) + channel) 0) ≡ cond (t || not (ltb n end)) 0 (get_or picture (3 * begin + (3 * n + channel - 3 * start)) 0)
    go true e = refl
    go false e =
        let same : 3 * (begin + (n - start)) + channel ≡ 3 * begin + (3 * n + channel - 3 * start) = omega (arith, ltb-false n start e) in
        rw same

-- a byte of a row of the file, as the code finds it
byte_in_row : (w : Weave) (picture : List ℕ) (row k : ℕ) → k < 3 * w.width → byte_at w picture (3 * row * w.width + k) ≡ byte_in picture (part_of w row) k
unfolding lacked pixel_at byte_in
byte_in_row w picture row k inside =
    let place : 3 * row * w.width + k ≡ byte_of w row (k / 3) (k % 3) = omega arith in
    let within : 3 * (row / 2 * w.width) + k ≡ 3 * along w row (k / 3) + k % 3 = omega arith in
    rw place (byte_at_lem w picture row (k / 3) (k % 3) (omega arith) (omega arith) ∙ rw within (byte_shown picture _ _ _ (along w row (k / 3)) (k % 3) (omega arith)))

-- what is put: the whole row, or nothing
abbrev pub Put : Weave → List ℕ → ℕ → List ℕ → List ℕ → ℕ → Type 0
Put w picture row room after count =
    (count ≡ length (row_put w picture row (length room))) × ((after ≡ sets room 0 (row_put w picture row (length room))) × KeptRoom room after count)

module _ (w : Weave) (picture : List ℕ) (row : ℕ) (room : List ℕ) where
  pub put_whole : true ≡ is_row w row (length room) → (p : Part) → p ≡ part_of w row → (after : List ℕ) → after ≡ run (byte_in picture p) 0 (3 * w.width) ++ drop (3 * w.width) room → Put w picture row room after (3 * w.width)
  unfolding row_put
  put_whole e p part after laid =
      let fits = (row_small w row (length room) e).1 in
      let same = run_same (byte_at w picture) (byte_in picture (part_of w row)) (3 * row * w.width) 0 (3 * w.width) (λ k h. rw (zero-add k) (byte_in_row w picture row k h)) in
      let sized = run_length (byte_at w picture) (3 * row * w.width) (3 * w.width) in
      let put : after ≡ sets room 0 (row_bytes w picture row) = laid ∙ rw (part, ← same, sets-eq (row_bytes w picture row) room 0 (omega (arith, sized)), sized, zero-add (3 * w.width)) in
      rw (← e) (sym sized, (put, record { end = fits; same = rw put (length-sets room 0 (row_bytes w picture row)) }))

  pub put_none : false ≡ is_row w row (length room) → Put w picture row room room 0
  unfolding row_put
  put_none e = rw (← e) (refl, (refl, record { end = omega arith; same = refl }))
