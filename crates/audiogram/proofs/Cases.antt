-- Cases of this crate's functions, over plain tests. Assumes nothing.
use Prim.Native.Nat.{ℕ, ◌+◌, ◌*◌, ◌≤◌, ◌<◌}
use mathlib.Core.Path.{◌≡◌, refl, sym, ◌∙◌, ap}
use mathlib.Core.Bool.{Bool, true, false, cond, ◌||◌}
use mathlib.Core.List.{List}
use native.Mathlib.Omega.{arith}
use Rattle.std.specs.Prelude.{Option, Some, None}
use Rattle.std.specs.Bool.{then_some}
use Rattle.base.proofs.Bools.{neither_holds}
use Rattle.marks.specs.Near.{near}
use Rattle.marks.proofs.ear.Near.{far_hidden}
use Rattle.form.specs.Form.{form}
use Rattle.audiogram.specs.Entry.{paper_entry, form_entry, entry_at}
use Rattle.audiogram.specs.Places.{holds, pixel_of}
use Rattle.audiogram.specs.Picture.{packed, four_from, entry_of, byte_at}
use Rattle.audiogram.proofs.Places.{holds_next, pixel_next}
use Rattle.marks.specs.declared.points.Point.{Point}

-- what is asked of a pixel: where no ear is near, the form alone
abbrev pub asked : List ℕ → List ℕ → Bool → Point → ℕ
asked right left near q = cond near (entry_at right left q) (cond (form q) form_entry paper_entry)

-- four pixels of one line: that decides the entry of each
module _ (right left : List ℕ) (x y : ℕ) (a b : Bool) (e : a ≡ near right (record { x = x; y = y })) (f : b ≡ near left (record { x = x; y = y })) where
  entry_made : (n entry : ℕ) (q : Point) → q.y ≡ y → q.x ≡ x + n → n ≤ 3 → entry ≡ asked right left (a || b) q → entry ≡ entry_at right left q
  unfolding entry_at
  entry_made n entry q row column h = go (a || b) refl
    where
      p : Point
      p = record { x = x; y = y }

      go : (t : Bool) → (a || b) ≡ t → entry ≡ asked right left t q → entry ≡ entry_at right left q
      go true g k = k
      go false g k =
          let far = neither_holds a b g in
          k ∙ rw (far_hidden p q row (omega arith) (omega arith) true right (sym e ∙ far.0), far_hidden p q row (omega arith) (omega arith) false left (sym f ∙ far.1))

-- their byte, of the four entries
module _ (right left : List ℕ) (x y : ℕ) (a b : Bool) where
  pub four_made : (first second third fourth : ℕ) → a ≡ near right (record { x = x; y = y }) → b ≡ near left (record { x = x; y = y }) → first ≡ asked right left (a || b) (record { x = x; y = y }) → second ≡ asked right left (a || b) (record { x = x + 1; y = y }) → third ≡ asked right left (a || b) (record { x = x + 2; y = y }) → fourth ≡ asked right left (a || b) (record { x = x + 3; y = y }) → packed first second third fourth ≡ four_from right left (record { x = x; y = y })
  four_made first second third fourth e f g h j k =
      rw (
        entry_made right left x y a b e f 0 first (record { x = x; y = y }) refl (omega arith) (omega arith) g,
        entry_made right left x y a b e f 1 second (record { x = x + 1; y = y }) refl refl (omega arith) h,
        entry_made right left x y a b e f 2 third (record { x = x + 2; y = y }) refl refl (omega arith) j,
        entry_made right left x y a b e f 3 fourth (record { x = x + 3; y = y }) refl refl (omega arith) k,
      )

-- a byte of the memory: four pixels of the chart, or paper
module _ (n : Bool) (right left : List ℕ) (i : ℕ) where
  entry_next : (j : ℕ) → j < 4 → entry_of n right left (4 * i + j) ≡ cond (holds n (4 * i)) (entry_at right left (record { x = (pixel_of n (4 * i)).x + j; y = (pixel_of n (4 * i)).y })) paper_entry
  unfolding entry_of
  entry_next j h = go (holds n (4 * i)) refl
    where
      go : (b : Bool) → holds n (4 * i) ≡ b → cond (holds n (4 * i + j)) (entry_at right left (pixel_of n (4 * i + j))) paper_entry ≡ cond b (entry_at right left (record { x = (pixel_of n (4 * i)).x + j; y = (pixel_of n (4 * i)).y })) paper_entry
      go true e = rw (holds_next i j h n, e) (ap (entry_at right left) (pixel_next i j h n e))
      go false e = rw (holds_next i j h n, e)

  pub byte_held : holds n (4 * i) ≡ true → four_from right left (pixel_of n (4 * i)) ≡ byte_at n right left i
  unfolding byte_at entry_of
  byte_held e = rw (entry_next 1 (omega arith), entry_next 2 (omega arith), entry_next 3 (omega arith), e)

  pub byte_paper : holds n (4 * i) ≡ false → 0 ≡ byte_at n right left i
  unfolding byte_at entry_of
  byte_paper e = rw (entry_next 1 (omega arith), entry_next 2 (omega arith), entry_next 3 (omega arith), e)

  -- by what the byte was found to hold
  pub byte_some : (p : Point) (b : ℕ) → Some p ≡ then_some (holds n (4 * i)) (pixel_of n (4 * i)) → b ≡ four_from right left p → b ≡ byte_at n right left i
  byte_some p b f e = go (holds n (4 * i)) refl f
    where
      go : (h : Bool) → holds n (4 * i) ≡ h → Some p ≡ then_some h (pixel_of n (4 * i)) → b ≡ byte_at n right left i
      go true h k = let q : p ≡ pixel_of n (4 * i) = cc in e ∙ rw q (byte_held h)
      go false h k = absurd (cc)

  pub byte_none : ◌≡◌ {A = Option Point} None (then_some (holds n (4 * i)) (pixel_of n (4 * i))) → 0 ≡ byte_at n right left i
  byte_none f = go (holds n (4 * i)) refl f
    where
      go : (h : Bool) → holds n (4 * i) ≡ h → ◌≡◌ {A = Option Point} None (then_some h (pixel_of n (4 * i))) → 0 ≡ byte_at n right left i
      go true h k = absurd (cc)
      go false h k = byte_paper h

-- what a byte was found to hold, of its place
pub four_found : (n : Bool) (i : ℕ) (held : Bool) (p : Point) (r : Option Point) → r ≡ then_some held p → held ≡ holds n (4 * i) → p ≡ pixel_of n (4 * i) → r ≡ then_some (holds n (4 * i)) (pixel_of n (4 * i))
four_found n i held p r e f g = e ∙ rw (f, g)
