-- Which half of its line a half line is, and which line: laws for callers, who need not know where lines count from. Assumes nothing.
use Prim.Native.Nat.{ℕ, ◌+◌, ◌-◌, ◌*◌, ◌/◌, ◌%◌, ◌≤◌}
use mathlib.Core.Bool.{Bool, true, false, cond}
use mathlib.Core.Path.{◌≡◌, refl}
use native.Mathlib.Nat.{mul-le-mul_right}
use native.Mathlib.Omega.{arith}
use borrow.Author.Tests.{eq-eqb, ne_eqb, eqb-true, eqb-false}
use lib.Dec.{eqb}
use Rattle.units.specs.Parameters.{half_ticks, halves_to_vblank, halves_to_vdisplay, halves_in_field}
use Rattle.units.specs.declared.Screen.{Screen}
use Rattle.lines.specs.Lines.{line_from, line_of, second_half, in_line, lines_above, column_of, field_visible}

module _ (s : Screen) where
  -- with k half lines since VBlank's first, a half line is the first half of its line exactly when k is even
  pub second_since_vblank : s.interlaced ≡ false → (k : ℕ) → second_half s (halves_to_vblank s + k) ≡ eqb (k % 2) 1
  unfolding second_half line_from
  second_since_vblank n k =
      let e : (halves_to_vblank s + k + halves_to_vblank s) % 2 ≡ k % 2 = omega arith in
      simp n (rw e)

  -- interlaced, half lines are numbered through the frame: an odd one is the second half of its line
  pub second_through : s.interlaced ≡ true → (h : ℕ) → second_half s h ≡ eqb ((h + cond s.second (halves_in_field s) 0) % 2) 1
  unfolding second_half line_from
  second_through n h = simp n

  pub line_through : s.interlaced ≡ true → (h : ℕ) → line_of s h ≡ (h + cond s.second (halves_in_field s) 0) / 2
  unfolding line_of line_from
  line_through n h = simp n

  -- an even number of half lines on, a tick stands in its line as before
  pub in_line_even : (h k u : ℕ) → k % 2 ≡ 0 → in_line s (h + k) u ≡ in_line s h u
  unfolding in_line second_half
  in_line_even h k u e =
      let q : (h + k + line_from s) % 2 ≡ (h + line_from s) % 2 = omega arith in
      rw q

  -- half as many lines on
  pub line_of_even : (h k : ℕ) → k % 2 ≡ 0 → line_of s (h + k) ≡ line_of s h + k / 2
  unfolding line_of
  line_of_even h k e = omega arith

  -- a first half is followed by its line's second
  module _ (h : ℕ) (e : second_half s h ≡ false) where
    pub first_next : second_half s (h + 1) ≡ true
    unfolding second_half
    first_next = eq-eqb ((h + 1 + line_from s) % 2) 1 (omega (arith, eqb-false ((h + line_from s) % 2) 1 e))

    pub first_line : line_of s (h + 1) ≡ line_of s h
    unfolding line_of second_half
    first_line = omega (arith, eqb-false ((h + line_from s) % 2) 1 e)

    pub first_in : (u : ℕ) → in_line s h u ≡ u
    unfolding in_line
    first_in u = simp e

  -- a second half by the next line's first
  module _ (h : ℕ) (e : second_half s h ≡ true) where
    pub second_next : second_half s (h + 1) ≡ false
    unfolding second_half
    second_next = ne_eqb ((h + 1 + line_from s) % 2) 1 (λ q. omega (arith, eqb-true ((h + line_from s) % 2) 1 e))

    pub second_line : line_of s (h + 1) ≡ line_of s h + 1
    unfolding line_of second_half
    second_line = omega (arith, eqb-true ((h + line_from s) % 2) 1 e)

    pub second_in : (u : ℕ) → in_line s h u ≡ half_ticks s + u
    unfolding in_line
    second_in u = simp e

  pub in_line_next : (h u : ℕ) → in_line s h (u + 1) ≡ in_line s h u + 1
  unfolding in_line
  in_line_next h u = go (second_half s h)
    where
      go : (t : Bool) → cond t (half_ticks s + (u + 1)) (u + 1) ≡ cond t (half_ticks s + u) u + 1
      go true = omega arith
      go false = refl

  -- from one half line to a later one: lines grow, by no more than half lines do; inside one line ticks do
  module _ (h h' : ℕ) (p : h ≤ h') where
    pub line_least : line_of s h ≤ line_of s h'
    unfolding line_of
    line_least = omega arith

    pub line_most : line_of s h' ≤ line_of s h + h'
    unfolding line_of
    line_most = omega arith

    same_half : second_half s h ≡ true → line_of s h' ≤ line_of s h → h ≡ h'
    unfolding line_of second_half
    same_half e q = omega (arith, eqb-true ((h + line_from s) % 2) 1 e)

    pub in_line_least : line_of s h' ≤ line_of s h → (u : ℕ) → in_line s h 0 ≤ in_line s h' u
    in_line_least q u = go (second_half s h) refl
      where
        go : (t : Bool) → second_half s h ≡ t → in_line s h 0 ≤ in_line s h' u
        go false e = omega (arith, first_in h e 0)
        go true e = rw (← (same_half e q)) (omega (arith, second_in h e 0, second_in h e u))

  -- a half line has no more lines above it than half lines
  pub lines_above_most : (h : ℕ) → lines_above s h ≤ h
  unfolding lines_above line_of
  lines_above_most h = omega arith

  -- a field shows no more than a line for each half line of VDisplay, and one
  pub visible_most : field_visible s ≤ (s.vdisplay.0 + 1) * s.display.0
  unfolding field_visible lines_above line_of column_of
  visible_most =
      let lines : (halves_in_field s + line_from s) / 2 - (halves_to_vdisplay s + line_from s) / 2 ≤ s.vdisplay.0 = omega arith in
      omega (arith, mul-le-mul_right s.display.0 lines)
