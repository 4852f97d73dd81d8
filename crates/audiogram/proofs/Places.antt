-- Laws of the layout: each pixel of the chart lies at its place and nowhere else, and a byte holds four pixels of one line or none. Assumes nothing.
use Prim.Native.Nat.{ℕ, ◌+◌, ◌*◌, ◌-◌, ◌/◌, ◌%◌, ◌≤◌, ◌<◌}
use mathlib.Core.Path.{◌≡◌, refl, sym, ap}
use mathlib.Core.Bool.{Bool, true, false, cond, ◌&&◌}
use native.Mathlib.Omega.{arith}
use lib.Dec.{ltb, leb}
use borrow.Author.Tests.{leb-true, leb-false, lt-ltb, le-leb, lt-leb}
use Rattle.base.proofs.Bools.{both_hold}
use Rattle.marks.specs.declared.points.Point.{Point}
use Rattle.audiogram.specs.Places.{width, height, fields, row_pixels, place_in, above, field_of, number_of, place_of, field_at, number_at, chart_at, holds, pixel_of}
use Rattle.audiogram.specs.Picture.{size}

same_point : (p : Point) (x y : ℕ) → x ≡ p.x → y ≡ p.y → ◌≡◌ {A = Point} (record { x = x; y = y }) p
same_point p x y e f = rw (e, f)

row_back : (row i : ℕ) → (row * row_pixels + i % row_pixels) / row_pixels ≡ row
row_back row i = omega arith

number_back : (row i : ℕ) → (row * row_pixels + i % row_pixels) % row_pixels ≡ i % row_pixels
number_back row i = omega arith

field_back : (n : Bool) (q f : ℕ) → f < fields n → ((q * fields n + f) % fields n ≡ f) × ((q * fields n + f) / fields n ≡ q)
field_back false q f h = (omega arith, omega arith)
field_back true q f h = (omega arith, omega arith)

rows_field : (n : Bool) (f i : ℕ) → f < fields n → field_at n (place_in n f i) ≡ f
rows_field n f i h = rw (row_back (i / row_pixels * fields n + f) i) (field_back n (i / row_pixels) f h).0

rows_number : (n : Bool) (f i : ℕ) → f < fields n → number_at n (place_in n f i) ≡ i
rows_number n f i h =
    let whole : i / row_pixels * row_pixels + i % row_pixels ≡ i = omega arith in
    rw (row_back (i / row_pixels * fields n + f) i, number_back (i / row_pixels * fields n + f) i, (field_back n (i / row_pixels) f h).1) whole

-- what a place of a field holds
pub holds_rows : (n : Bool) (f i : ℕ) → f < fields n → holds n (place_in n f i) ≡ (leb (above f) i && ltb ((i - above f) / width) (height / fields n))
unfolding holds
holds_rows n f i h = rw (rows_field n f i h, rows_number n f i h)

-- ---- places and pixels

module _ (n : Bool) (p : Point) (h : p.x < width) (l : p.y < height) where
  in_field : (k : Bool) → field_of k p < fields k
  in_field false = omega arith
  in_field true = omega arith

  place_field : field_at n (place_of n p) ≡ field_of n p
  unfolding place_of
  place_field = rows_field n (field_of n p) (number_of n p) (in_field n)

  place_number : number_at n (place_of n p) ≡ number_of n p
  unfolding place_of
  place_number = rows_number n (field_of n p) (number_of n p) (in_field n)

  place_chart : chart_at n (place_of n p) ≡ p.y / fields n * width + p.x
  place_chart = rw (place_field, place_number) (omega arith)

  line_back : (k : Bool) → p.y / fields k * fields k + p.y % fields k ≡ p.y
  line_back false = omega arith
  line_back true = omega arith

  -- THE PLACE OF A PIXEL holds that pixel
  pub place_pixel : pixel_of n (place_of n p) ≡ p
  unfolding pixel_of
  place_pixel =
      let column : (p.y / fields n * width + p.x) % width ≡ p.x = omega arith in
      let line : (p.y / fields n * width + p.x) / width ≡ p.y / fields n = omega arith in
      same_point p _ _ (rw place_chart column) (rw (place_chart, place_field, line) (line_back n))

  few_lines : (k : Bool) → p.y / fields k < height / fields k
  few_lines false = omega arith
  few_lines true = omega arith

  pub place_holds : holds n (place_of n p) ≡ true
  unfolding holds
  place_holds =
      let line : (p.y / fields n * width + p.x) / width ≡ p.y / fields n = omega arith in
      rw (place_chart, place_field, place_number, line, le-leb (above (field_of n p)) (number_of n p) (omega arith), lt-ltb (p.y / fields n) (height / fields n) (few_lines n))

  -- and lies in the picture's bytes
  pub place_inside : place_of n p < 4 * size n
  unfolding place_of
  place_inside = go n
    where
      go : (k : Bool) → place_in k (field_of k p) (number_of k p) < 4 * size k
      go false = omega arith
      go true =
          let i = number_of true p in
          let few : i / row_pixels ≤ 37 = omega arith in
          omega (arith, few)

-- ---- the four places of a byte, in bytes: 1,024 to a row, 160 to a line, 92 above the chart

-- what it holds, of its field and number
module _ (n : Bool) (i f m : ℕ) (e : f ≡ field_at n (4 * i)) (g : 4 * m ≡ number_at n (4 * i)) where
  leb_in : leb (92 * f) m ≡ leb (above f) (4 * m)
  leb_in = sym (go (leb (92 * f) m) refl)
    where
      go : (b : Bool) → leb (92 * f) m ≡ b → leb (above f) (4 * m) ≡ b
      go true k = le-leb (above f) (4 * m) (omega (arith, leb-true (92 * f) m k))
      go false k = lt-leb (above f) (4 * m) (omega (arith, leb-false (92 * f) m k))

  line_in : (m - 92 * f) / 160 ≡ (4 * m - above f) / width
  line_in = omega arith

  few_in : (k : Bool) → cond k 240 480 ≡ height / fields k
  few_in false = refl
  few_in true = refl

  pub holds_in : (leb (92 * f) m && ltb ((m - 92 * f) / 160) (cond n 240 480)) ≡ holds n (4 * i)
  unfolding holds
  holds_in = rw (← e, ← g, leb_in, line_in, few_in n)

  pub pixel_in : record { x = (m - 92 * f) % 160 * 4; y = cond n (2 * ((m - 92 * f) / 160) + f) ((m - 92 * f) / 160) } ≡ pixel_of n (4 * i)
  unfolding pixel_of
  pixel_in = sym (rw (← e, ← g, ← line_in, column) (ap (λ (y : ℕ). record { x = (m - 92 * f) % 160 * 4; y = y }) (line n e)))
    where
      column : (4 * m - above f) % width ≡ (m - 92 * f) % 160 * 4
      column = omega arith

      line : (k : Bool) → f ≡ field_at k (4 * i) → (m - 92 * f) / 160 * fields k + f ≡ cond k (2 * ((m - 92 * f) / 160) + f) ((m - 92 * f) / 160)
      line false h = omega arith
      line true h = omega arith

-- its four places stand side by side: all on the chart, or none
module _ (i j : ℕ) (h : j < 4) where
  same_field : (n : Bool) → field_at n (4 * i + j) ≡ field_at n (4 * i)
  same_field n =
      let row : (4 * i + j) / row_pixels ≡ 4 * i / row_pixels = omega arith in
      rw row

  next_number : (n : Bool) → number_at n (4 * i + j) ≡ number_at n (4 * i) + j
  next_number n =
      let row : (4 * i + j) / row_pixels ≡ 4 * i / row_pixels = omega arith in
      let rest : (4 * i + j) % row_pixels ≡ 4 * i % row_pixels + j = omega arith in
      rw (row, rest) (omega arith)

  fourfold : (n : Bool) → number_at n (4 * i) ≡ 4 * (number_at n (4 * i) / 4)
  fourfold n = go (4 * i / row_pixels / fields n)
    where
      go : (q : ℕ) → q * row_pixels + 4 * i % row_pixels ≡ 4 * ((q * row_pixels + 4 * i % row_pixels) / 4)
      go q = omega arith

  module _ (n : Bool) where
    abbrev f : ℕ
    f = field_at n (4 * i)

    abbrev m : ℕ
    m = number_at n (4 * i) / 4

    leb_next : leb (above f) (4 * m + j) ≡ leb (above f) (4 * m)
    leb_next = go (leb (above f) (4 * m)) refl
      where
        go : (b : Bool) → leb (above f) (4 * m) ≡ b → leb (above f) (4 * m + j) ≡ b
        go true k = le-leb (above f) (4 * m + j) (omega (arith, leb-true (above f) (4 * m) k))
        go false k = lt-leb (above f) (4 * m + j) (omega (arith, leb-false (above f) (4 * m) k))

    line_next : (4 * m + j - above f) / width ≡ (4 * m - above f) / width
    line_next = omega arith

    pub holds_next : holds n (4 * i + j) ≡ holds n (4 * i)
    unfolding holds
    holds_next = rw (same_field n, next_number n, fourfold n, leb_next, line_next)

    pub pixel_next : holds n (4 * i) ≡ true → pixel_of n (4 * i + j) ≡ record { x = (pixel_of n (4 * i)).x + j; y = (pixel_of n (4 * i)).y }
    unfolding holds pixel_of
    pixel_next held =
        let begun : above f ≤ 4 * m = rw (← fourfold n) (leb-true (above f) (number_at n (4 * i)) (both_hold _ _ held).0) in
        let column : (4 * m + j - above f) % width ≡ (4 * m - above f) % width + j = omega (arith, begun) in
        rw (same_field n, next_number n, fourfold n, column, line_next)
