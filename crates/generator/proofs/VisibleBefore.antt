-- How many visible ticks lie before a position of the field: the count, in closed form, whichever half of a line VDisplay begins with; the
-- column and the line that the count gives; and, by the format, how many a whole frame has. Assumes nothing.
use Prim.Native.Nat.{ℕ, zero, suc, ◌+◌, ◌-◌, ◌*◌, ◌/◌, ◌%◌, ◌≤◌, ◌<◌, min}
use mathlib.Core.Bool.{Bool, true, false, cond, ◌&&◌, true≢false}
use mathlib.Core.Path.{◌≡◌, refl, sym, ap, ◌∙◌}
use mathlib.Core.Logic.{⊎_elim}
use native.Mathlib.Nat.{mod-lt, mod-eq_of_lt, div-eq_of_lt-le, div-add-mod', mul-add-mod_self_right, mul-le-mul_right, mul_comm, zero-mul, zero-div, zero-mod, add-zero, add-suc, add-mul, le_trans}
use native.Mathlib.Numerals.{add-one}
use native.Mathlib.Omega.{arith}
use borrow.Author.Tests.{ltb-true, leb-true, lt-ltb, le-ltb, le-leb, lt-leb, eq-eqb, ne_eqb}
use lib.Dec.{ltb, leb}
use Rattle.base.specs.Count.{count}
use Rattle.units.specs.Parameters.{in_field, field_ticks, half_ticks, display_from, halves_to_vblank, halves_to_vdisplay, halves_in_field}
use Rattle.screen.specs.Limits.{Accepted}
use Rattle.screen.specs.Totals.{frame_visible}
use Rattle.units.specs.declared.Screen.{Screen}
use Rattle.lines.specs.Lines.{period, is_vdisplay, line_of, second_half, in_line, in_display, visible, lead, column_of, lines_above, tick_number, visible_before, field_visible}
use Rattle.lines.proofs.Halves.{second_since_vblank, second_through, line_through, in_line_even, line_of_even, first_next, first_line, first_in, second_next, second_line, second_in, in_line_next, line_least, in_line_least}
use Rattle.lines.specs.declared.Period.TheVariants.{PreEqualise, VSync, PostEqualise, VBlank}
use Rattle.base.proofs.Bools.{below, both_hold}

dark_period : (a b c : Bool) → is_vdisplay (cond a PreEqualise (cond b VSync (cond c PostEqualise VBlank))) ≡ false
dark_period true b c = refl
dark_period false true c = refl
dark_period false false true = refl
dark_period false false false = refl

-- a position's half line and its tick there, from the tick's number
pub number_half : (h u H : ℕ) → u < H → (h * H + u) / H ≡ h
number_half h u H p = div-eq_of_lt-le H (omega arith) (omega arith)

pub number_at : (h u H : ℕ) → u < H → (h * H + u) % H ≡ u
number_at h u H p = mul-add-mod_self_right h H u ∙ mod-eq_of_lt p

module _ (s : Screen) where
  pub dark : (h u : ℕ) → h < halves_to_vdisplay s → visible s h u ≡ false
  unfolding visible period
  dark h u p = simp (lt-ltb h (halves_to_vdisplay s) p, dark_period)

  pub lit : (h u : ℕ) → halves_to_vdisplay s ≤ h → visible s h u ≡ in_display s (in_line s h u)
  unfolding visible period
  lit h u p = simp (le-ltb h (halves_to_vdisplay s) p, le-ltb h (halves_to_vblank s) (omega arith), le-ltb h (s.vpreequalise.0 + s.vsync.0) (omega arith), le-ltb h s.vpreequalise.0 (omega arith))

  -- whole lines passed since the first displayed one, and what the line at hand has passed of its Display, but for what lay before VDisplay
  unfoldable visible_to : ℕ → ℕ → ℕ
  visible_to h u =
      cond (ltb h (halves_to_vdisplay s)) 0
      ((line_of s h - line_of s (halves_to_vdisplay s)) * s.display.0 + min s.display.0 (in_line s h u - display_from s) - lead s)

  to_dark : (h u : ℕ) → h < halves_to_vdisplay s → visible_to h u ≡ 0
  unfolding visible_to
  to_dark h u p = simp (lt-ltb h (halves_to_vdisplay s) p)

  to_lit : (h u : ℕ) → halves_to_vdisplay s ≤ h → visible_to h u ≡ (line_of s h - line_of s (halves_to_vdisplay s)) * s.display.0 + min s.display.0 (in_line s h u - display_from s) - lead s
  unfolding visible_to
  to_lit h u p = simp (le-ltb h (halves_to_vdisplay s) p)

  -- at VDisplay's first tick nothing is passed but the lead
  to_first : visible_to (halves_to_vdisplay s) 0 ≡ 0
  unfolding lead
  to_first =
      let none : line_of s (halves_to_vdisplay s) - line_of s (halves_to_vdisplay s) ≡ 0 = omega arith in
      to_lit (halves_to_vdisplay s) 0 (omega arith) ∙ rw (none, zero-mul) (omega arith)

  -- and from there on the lead is passed
  lead_passed : (h u : ℕ) → halves_to_vdisplay s ≤ h → lead s ≤ (line_of s h - line_of s (halves_to_vdisplay s)) * s.display.0 + min s.display.0 (in_line s h u - display_from s)
  unfolding lead
  lead_passed h u p =
      ⊎_elim
      (λ q.
      let one : 1 ≤ line_of s h - line_of s (halves_to_vdisplay s) = omega arith in
      omega (arith, mul-le-mul_right s.display.0 one))
      (λ q. omega (arith, in_line_least s (halves_to_vdisplay s) h p q u))
      (below (line_of s (halves_to_vdisplay s)) (line_of s h))

-- one more tick of a line: the Display ticks passed grow by one exactly in Display
grown : (D d x : ℕ) → min D (x + 1 - d) ≡ cond (leb d x && ltb x (d + D)) (min D (x - d) + 1) (min D (x - d))
grown D d x =
    ⊎_elim
    (λ p. simp (lt-leb d x p) (omega arith))
    (λ p. ⊎_elim (λ q. simp (le-leb d x p, lt-ltb x (d + D) q) (omega arith)) (λ q. simp (le-leb d x p, le-ltb x (d + D) q) (omega arith)) (below x (d + D)))
    (below x d)

add_cond : (n a b less : ℕ) (t : Bool) → less ≤ n + a → b ≡ cond t (a + 1) a → n + b - less ≡ cond t (n + a - less + 1) (n + a - less)
add_cond n a b less true p e = omega arith
add_cond n a b less false p e = omega arith

more_or_same : (t : Bool) (n : ℕ) → n ≤ cond t (n + 1) n
more_or_same true n = omega arith
more_or_same false n = omega arith

-- more ticks have no fewer visible ones
visible_more : (s : Screen) (n k : ℕ) → visible_before s n ≤ visible_before s (n + k)
unfolding visible_before count
visible_more s n zero = rw add-zero (omega arith)
visible_more s n (suc k) = rw add-suc (le_trans {m = visible_before s (n + k)} (visible_more s n k) (more_or_same (visible s ((n + k) / half_ticks s) ((n + k) % half_ticks s)) (visible_before s (n + k))))

pub visible_up : (s : Screen) (m n : ℕ) → m ≤ n → visible_before s m ≤ visible_before s n
visible_up s m n p = let e : m + (n - m) ≡ n = omega arith in rw e at (visible_more s m (n - m))

module _ (control : ℕ) (s : Screen) (ok : Accepted control s) where
  abbrev Grows : ℕ → ℕ → ℕ → ℕ → Type 0
  Grows h u h' u' = visible_to s h' u' ≡ cond (visible s h u) (visible_to s h u + 1) (visible_to s h u)

  both_dark : (h u h' u' : ℕ) → h < halves_to_vdisplay s → h' < halves_to_vdisplay s → Grows h u h' u'
  both_dark h u h' u' p q = simp (dark s h u p, to_dark s h u p, to_dark s h' u' q)

  -- from one tick of a line to the next, whatever half line and tick the next one is said by
  on_line : (h u h' u' : ℕ) → halves_to_vdisplay s ≤ h → h ≤ h' → line_of s h' ≡ line_of s h → in_line s h' u' ≡ in_line s h u + 1 → Grows h u h' u'
  on_line h u h' u' p q e f =
      simp (to_lit s h u p, to_lit s h' u' (omega arith), lit s h u p, e, f)
      (add_cond ((line_of s h - line_of s (halves_to_vdisplay s)) * s.display.0) (min s.display.0 (in_line s h u - display_from s)) (min s.display.0 (in_line s h u + 1 - display_from s)) (lead s) (in_display s (in_line s h u)) (lead_passed s h u p)
      (grown s.display.0 (display_from s) (in_line s h u)))

  within_half : (h u : ℕ) → Grows h u h (u + 1)
  within_half h u = ⊎_elim (λ q. both_dark h u h (u + 1) q q) (λ q. on_line h u h (u + 1) q (omega arith) refl (in_line_next s h u)) (below h (halves_to_vdisplay s))

  enters : (h u : ℕ) → h < halves_to_vdisplay s → halves_to_vdisplay s ≤ h + 1 → Grows h u (h + 1) 0
  enters h u p q =
      let first : h + 1 ≡ halves_to_vdisplay s = omega arith in
      simp (dark s h u p, to_dark s h u p, first, to_first s)

  -- past the line's middle
  crosses : (h u : ℕ) → halves_to_vdisplay s ≤ h → half_ticks s ≡ u + 1 → second_half s h ≡ false → Grows h u (h + 1) 0
  crosses h u q p e =
      on_line h u (h + 1) 0 q (omega arith) (first_line s h e)
      (second_in s (h + 1) (first_next s h e) 0 ∙ omega (arith, first_in s h e u))

  -- past the line's end, which is in the front porch
  ends : (h u : ℕ) → halves_to_vdisplay s ≤ h → half_ticks s ≡ u + 1 → second_half s h ≡ true → Grows h u (h + 1) 0
  ends h u q p e =
      let past : display_from s + s.display.0 ≤ half_ticks s + u = omega (arith, ok.line_holds, ok.line_even) in
      let more : line_of s h + 1 - line_of s (halves_to_vdisplay s) ≡ line_of s h - line_of s (halves_to_vdisplay s) + 1 = omega (arith, line_least s (halves_to_vdisplay s) h q) in
      simp (lit s h u q, to_lit s h u q, to_lit s (h + 1) 0 (omega arith), second_in s h e u, second_line s h e, first_in s (h + 1) (second_next s h e) 0, more, le-leb (display_from s) (half_ticks s + u) (omega arith), le-ltb (half_ticks s + u) (display_from s + s.display.0) past) (omega arith)

  next_half : (h u : ℕ) → half_ticks s ≡ u + 1 → Grows h u (h + 1) 0
  next_half h u p =
      ⊎_elim
      (λ q. ⊎_elim (λ r. both_dark h u (h + 1) 0 q r) (λ r. enters h u q r) (below (h + 1) (halves_to_vdisplay s)))
      (λ q. go q (second_half s h) refl)
      (below h (halves_to_vdisplay s))
    where
      go : halves_to_vdisplay s ≤ h → (t : Bool) → second_half s h ≡ t → Grows h u (h + 1) 0
      go q false e = crosses h u q p e
      go q true e = ends h u q p e

  some_ticks : 0 < half_ticks s
  some_ticks = omega (arith, ok.half_holds)

  -- the tick after the one that stands at (h, u), by its number
  after_number : (n h u : ℕ) → h * half_ticks s + u ≡ n → u < half_ticks s → visible_to s (suc n / half_ticks s) (suc n % half_ticks s) ≡ cond (visible s h u) (visible_to s h u + 1) (visible_to s h u)
  after_number n h u e p = ⊎_elim same other (below (u + 1) (half_ticks s))
    where
      same : u + 1 < half_ticks s → visible_to s (suc n / half_ticks s) (suc n % half_ticks s) ≡ cond (visible s h u) (visible_to s h u + 1) (visible_to s h u)
      same q =
          let k : suc n ≡ h * half_ticks s + (u + 1) = omega arith in
          rw (k, number_half h (u + 1) (half_ticks s) q, number_at h (u + 1) (half_ticks s) q) (within_half h u)

      other : half_ticks s ≤ u + 1 → visible_to s (suc n / half_ticks s) (suc n % half_ticks s) ≡ cond (visible s h u) (visible_to s h u + 1) (visible_to s h u)
      other q =
          let k : suc n ≡ (h + 1) * half_ticks s + 0 = omega arith in
          rw (k, number_half (h + 1) 0 (half_ticks s) some_ticks, number_at (h + 1) 0 (half_ticks s) some_ticks) (next_half h u (omega arith))

  -- the count is the closed form
  by_number : (n : ℕ) → visible_before s n ≡ visible_to s (n / half_ticks s) (n % half_ticks s)
  unfolding visible_before count
  by_number zero = sym (rw (zero-div, zero-mod) (to_dark s 0 0 (omega (arith, ok.bounded.vpreequalise.low))))
  by_number (suc n) =
      rw (by_number n)
      (sym (after_number n (n / half_ticks s) (n % half_ticks s) (div-add-mod' n (half_ticks s)) (mod-lt n some_ticks)))

  module _ (h u : ℕ) (p : u < half_ticks s) where
    closed : visible_before s (tick_number s h u) ≡ visible_to s h u
    closed = by_number (tick_number s h u) ∙ rw (number_half h u (half_ticks s) p, number_at h u (half_ticks s) p)

    -- THE COUNT IN CLOSED FORM: none before VDisplay, and in it Display for each whole line, what the line at hand has passed, less the lead
    pub visible_none : h < halves_to_vdisplay s → visible_before s (tick_number s h u) ≡ 0
    visible_none q = closed ∙ to_dark s h u q

    pub visible_closed : halves_to_vdisplay s ≤ h → visible_before s (tick_number s h u) ≡ (line_of s h - line_of s (halves_to_vdisplay s)) * s.display.0 + min s.display.0 (in_line s h u - display_from s) - lead s
    visible_closed q = closed ∙ to_lit s h u q

    -- one tick on, the count has grown by one exactly at a visible tick
    pub visible_next : visible_before s (tick_number s h u + 1) ≡ cond (visible s h u) (visible_before s (tick_number s h u) + 1) (visible_before s (tick_number s h u))
    unfolding visible_before count
    visible_next = rw (add-one (tick_number s h u)) (rw (number_half h u (half_ticks s) p, number_at h u (half_ticks s) p))

  -- before VDisplay's first tick there is none
  pub visible_opens : visible_before s (tick_number s (halves_to_vdisplay s) 0) ≡ 0
  visible_opens = closed (halves_to_vdisplay s) 0 some_ticks ∙ to_first s

  -- THE FIELD'S VISIBLE TICKS, in closed form
  pub field_visible_lem : visible_before s (field_ticks s) ≡ field_visible s
  unfolding field_visible lines_above column_of
  field_visible_lem =
      let e : field_ticks s ≡ tick_number s (halves_in_field s) 0 = omega (arith, mul_comm (half_ticks s) (halves_in_field s)) in
      rw e (visible_closed (halves_in_field s) 0 some_ticks (omega arith))

  -- THE COLUMN AND THE LINE OF A VISIBLE TICK follow from where it stands: with the lead before it they are what the count leaves and gives,
  -- divided by Display
  module _ (h u : ℕ) (p : u < half_ticks s) (v : visible s h u ≡ true) where
    from_vdisplay : halves_to_vdisplay s ≤ h
    from_vdisplay = ⊎_elim (λ q. absurd (true≢false (sym v ∙ dark s h u q))) (λ q. q) (below h (halves_to_vdisplay s))

    in_display_lem : (display_from s ≤ in_line s h u) × (in_line s h u < display_from s + s.display.0)
    in_display_lem =
        let e = both_hold _ _ (sym (lit s h u from_vdisplay) ∙ v) in
        (leb-true _ _ e.0, ltb-true _ _ e.1)

    column_in : column_of s h u < s.display.0
    unfolding column_of
    column_in = omega (arith, in_display_lem)

    count_spot : visible_before s (tick_number s h u) + lead s ≡ lines_above s h * s.display.0 + column_of s h u
    unfolding column_of lines_above
    count_spot = omega (arith, visible_closed h u p from_vdisplay, lead_passed s h u from_vdisplay, in_display_lem)

    pub column_by : column_of s h u ≡ (visible_before s (tick_number s h u) + lead s) % s.display.0
    column_by = sym (rw count_spot (number_at (lines_above s h) (column_of s h u) s.display.0 column_in))

    pub line_by : lines_above s h ≡ (visible_before s (tick_number s h u) + lead s) / s.display.0
    line_by = sym (rw count_spot (number_half (lines_above s h) (column_of s h u) s.display.0 column_in))

  -- by the format: not interlaced, VBlank is even and VDisplay begins with the first half of a line
  pub lead_none : s.interlaced ≡ false → lead s ≡ 0
  unfolding lead
  lead_none n =
      let first = second_since_vblank s n s.vblank.0 ∙ ne_eqb (s.vblank.0 % 2) 1 (λ e. omega (arith, ok.blank_even n)) in
      rw (first_in s (halves_to_vdisplay s) first 0) (omega arith)

  -- and VDisplay is even: it ends as it begins, half as many lines on
  pub plain_visible : s.interlaced ≡ false → field_visible s ≡ frame_visible s
  unfolding field_visible lines_above column_of lead
  plain_visible n =
      let k : line_of s (halves_in_field s) - line_of s (halves_to_vdisplay s) ≡ s.vdisplay.0 / 2 = omega (arith, line_of_even s (halves_to_vdisplay s) s.vdisplay.0 (ok.display_even n)) in
      simp n (rw (k, in_line_even s (halves_to_vdisplay s) s.vdisplay.0 0 (ok.display_even n)) (omega (arith, mul_comm (s.vdisplay.0 / 2) s.display.0)))

-- interlaced, VDisplay is odd, and so is the field: the first field begins with a first half and ends in the middle of a line, the second begins
-- with a second half and ends with a line, and what the one has of its last line the other lacks of its first
module _ (control : ℕ) (s : Screen) (ok : Accepted control s) (n : s.interlaced ≡ true) where
  abbrev middle : ℕ
  middle = min s.display.0 (half_ticks s - display_from s)

  before_even : halves_to_vdisplay s % 2 ≡ 0
  before_even = omega (arith, ok.display_odd n, ok.halves_odd n)

  abbrev lines : ℕ
  lines = s.vdisplay.0 / 2

  -- so the first field's VDisplay begins with a first half, and the second's with a second half
  pub begins_by_field : (second : Bool) → second_half (in_field second s) (halves_to_vdisplay s) ≡ second
  begins_by_field false = second_through (in_field false s) n (halves_to_vdisplay s) ∙ ne_eqb ((halves_to_vdisplay s + 0) % 2) 1 (λ e. omega (arith, before_even))
  begins_by_field true = second_through (in_field true s) n (halves_to_vdisplay s) ∙ eq-eqb ((halves_to_vdisplay s + halves_in_field s) % 2) 1 (omega (arith, before_even, ok.halves_odd n))

  pub lead_first : lead (in_field false s) ≡ 0
  unfolding lead
  lead_first = rw (first_in (in_field false s) (halves_to_vdisplay s) (begins_by_field false) 0) (omega arith)

  pub lead_second : lead (in_field true s) ≡ middle
  unfolding lead
  lead_second = rw (second_in (in_field true s) (halves_to_vdisplay s) (begins_by_field true) 0, add-zero)

  pub first_visible : field_visible (in_field false s) ≡ lines * s.display.0 + middle
  unfolding field_visible lines_above column_of
  first_visible =
      let second = second_through (in_field false s) n (halves_in_field s) ∙ eq-eqb ((halves_in_field s + 0) % 2) 1 (omega (arith, ok.halves_odd n)) in
      let k : line_of (in_field false s) (halves_in_field s) - line_of (in_field false s) (halves_to_vdisplay s) ≡ s.vdisplay.0 / 2 = omega (arith, line_through (in_field false s) n (halves_in_field s), line_through (in_field false s) n (halves_to_vdisplay s), before_even, ok.display_odd n) in
      rw (k, second_in (in_field false s) (halves_in_field s) second 0, add-zero, lead_first) (omega arith)

  pub second_visible : field_visible (in_field true s) ≡ (lines + 1) * s.display.0 - middle
  unfolding field_visible lines_above column_of
  second_visible =
      let first = second_through (in_field true s) n (halves_in_field s) ∙ ne_eqb ((halves_in_field s + halves_in_field s) % 2) 1 (λ e. omega arith) in
      let k : line_of (in_field true s) (halves_in_field s) - line_of (in_field true s) (halves_to_vdisplay s) ≡ s.vdisplay.0 / 2 + 1 = omega (arith, line_through (in_field true s) n (halves_in_field s), line_through (in_field true s) n (halves_to_vdisplay s), before_even, ok.display_odd n, ok.halves_odd n) in
      rw (k, first_in (in_field true s) (halves_in_field s) first 0, lead_second) (omega arith)

  -- both fields together show Display for each of VDisplay lines
  pub fields_visible : field_visible (in_field false s) + field_visible (in_field true s) ≡ frame_visible s
  fields_visible =
      let odd : s.vdisplay.0 ≡ s.vdisplay.0 / 2 + (s.vdisplay.0 / 2 + 1) = omega (arith, ok.display_odd n) in
      let all : s.display.0 * s.vdisplay.0 ≡ lines * s.display.0 + (lines + 1) * s.display.0 = mul_comm s.display.0 s.vdisplay.0 ∙ ap (λ (k : ℕ). k * s.display.0) odd ∙ add-mul lines (lines + 1) s.display.0 in
      rw (first_visible, second_visible) (simp n (omega (arith, all)))
