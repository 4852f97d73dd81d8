-- The field's first visible tick, and the request's prelude before it. Assumes nothing.
use Prim.Native.Nat.{ℕ, ◌+◌, ◌-◌, ◌≤◌, ◌<◌, min}
use mathlib.Core.Bool.{Bool, true, false, ◌&&◌}
use mathlib.Core.Path.{◌≡◌, refl, ◌∙◌}
use mathlib.Core.Logic.{⊎_elim}
use native.Mathlib.Nat.{mul-le-mul_right, mul_comm, zero-mul, one-mul, add-zero}
use native.Mathlib.Omega.{arith}
use borrow.Author.Tests.{ltb-true, leb-true, lt-ltb, le-ltb, le-leb, lt-leb, ne_eqb}
use lib.Dec.{ltb, leb, eqb}
use Rattle.units.specs.Parameters.{in_field, half_ticks, display_from, halves_to_vdisplay, halves_in_field, field_ticks}
use Rattle.screen.specs.Limits.{Accepted}
use Rattle.screen.proofs.limits.Laws.{accepted_in}
use Rattle.units.specs.declared.Screen.{Screen}
use Rattle.lines.specs.Lines.{line_of, second_half, in_line, visible, lead, tick_number, visible_before, field_visible}
use Rattle.lines.proofs.Halves.{first_in, second_next, second_line, second_in}
use Rattle.generator.specs.Rows.{leads}
use Rattle.generator.specs.First.{first_visible}
use Rattle.generator.proofs.VisibleBefore.{lit, visible_up, visible_closed, visible_next, visible_opens, field_visible_lem, lead_none, lead_first}
use Rattle.base.proofs.Bools.{below, both_hold}

module _ (control : ℕ) (s : Screen) (ok : Accepted control s) where
  from_in : display_from s < half_ticks s
  from_in = omega (arith, ok.half_holds)

  abbrev start : ℕ
  start = halves_to_vdisplay s

  -- a place that is visible and has none before it, whose number is the first's
  record First : Type 0 where
    half : ℕ
    at : ℕ
    at_in : at < half_ticks s
    lit_there : visible s half at ≡ true
    none : visible_before s (tick_number s half at) ≡ 0
    number : tick_number s half at ≡ first_visible s
    at_most : at ≤ display_from s
    far : halves_in_field s ≤ half → at ≡ display_from s

  in_display_lem : (h u : ℕ) → start ≤ h → display_from s ≤ in_line s h u → in_line s h u < display_from s + s.display.0 → visible s h u ≡ true
  in_display_lem h u p a b = lit s h u p ∙ simp (le-leb (display_from s) (in_line s h u) a, lt-ltb (in_line s h u) (display_from s + s.display.0) b)

  -- VDisplay begins with a first half
  from_first : second_half s start ≡ false → First
  unfolding lead first_visible
  from_first e =
      let line = first_in s start e in
      let bare : lead s ≡ 0 = omega (arith, line 0) in
      let same : line_of s start - line_of s start ≡ 0 = omega arith in
      record {
        half = start;
        at = display_from s;
        at_in = from_in;
        lit_there = in_display_lem start (display_from s) (omega arith) (omega (arith, line (display_from s))) (omega (arith, line (display_from s), ok.bounded.display.low));
        none = visible_closed control s ok start (display_from s) from_in (omega arith) ∙ rw (same, zero-mul, line (display_from s), bare) (omega arith);
        number = simp (bare, add-zero);
        at_most = omega arith;
        far = λ q. refl;
      }

  -- with a second half, in which Display goes on or has ended
  module _ (e : second_half s start ≡ true) where
    late : lead s ≡ min s.display.0 (half_ticks s - display_from s)
    unfolding lead
    late = rw (second_in s start e 0, add-zero)

    some_lead : eqb (lead s) 0 ≡ false
    some_lead = ne_eqb (lead s) 0 (λ z. omega (arith, late, from_in, ok.bounded.display.low))

    from_second : lead s < s.display.0 → First
    unfolding first_visible
    from_second p =
        record {
          half = start;
          at = 0;
          at_in = omega (arith, from_in);
          lit_there = in_display_lem start 0 (omega arith) (omega (arith, second_in s start e 0, from_in)) (omega (arith, second_in s start e 0, late));
          none = visible_opens control s ok;
          number = simp (some_lead, lt-ltb (lead s) s.display.0 p, add-zero);
          at_most = omega arith;
          far = λ q. absurd (omega (arith, ok.bounded.vdisplay.low));
        }

    from_next : s.display.0 ≤ lead s → First
    unfolding first_visible
    from_next p =
        let line = first_in s (start + 1) (second_next s start e) in
        let one : line_of s (start + 1) - line_of s start ≡ 1 = omega (arith, second_line s start e) in
        record {
          half = start + 1;
          at = display_from s;
          at_in = from_in;
          lit_there = in_display_lem (start + 1) (display_from s) (omega arith) (omega (arith, line (display_from s))) (omega (arith, line (display_from s), ok.bounded.display.low));
          none = visible_closed control s ok (start + 1) (display_from s) from_in (omega arith) ∙ rw (one, one-mul, line (display_from s)) (omega (arith, late));
          number = simp (some_lead, le-ltb (lead s) s.display.0 p) (omega arith);
          at_most = omega arith;
          far = λ q. refl;
        }

  first : First
  first = go (second_half s start) refl
    where
      go : (t : Bool) → second_half s start ≡ t → First
      go false e = from_first e
      go true e = ⊎_elim (from_second e) (from_next e) (below (lead s) s.display.0)

  first_none : visible_before s (first_visible s) ≡ 0
  first_none = rw (← first.number) first.none

  first_one : visible_before s (first_visible s + 1) ≡ 1
  first_one = rw (← first.number) (visible_next control s ok first.half first.at first.at_in ∙ simp (first.lit_there, first.none))

  -- none lies before it, and one or more from it on
  pub none_to_first : (n : ℕ) → n ≤ first_visible s → visible_before s n ≡ 0
  none_to_first n p = omega (arith, visible_up s n (first_visible s) p, first_none)

  pub some_from_first : (n : ℕ) → first_visible s < n → 0 < visible_before s n
  some_from_first n p = omega (arith, visible_up s (first_visible s + 1) n (omega arith), first_one)

  -- the prelude, by the number of its tick
  pub leads_by : (n : ℕ) → (ltb n (first_visible s) && leb (first_visible s) (n + s.transferdelay.0)) ≡ leads s n
  unfolding leads
  leads_by n = ⊎_elim before (λ p. simp (le-ltb n (first_visible s) p, ne_eqb (visible_before s (n + 1)) 0 (λ e. omega (arith, some_from_first (n + 1) (omega arith))))) (below n (first_visible s))
    where
      d : ℕ
      d = s.transferdelay.0

      before : n < first_visible s → (ltb n (first_visible s) && leb (first_visible s) (n + d)) ≡ (eqb (visible_before s (n + 1)) 0 && ltb 0 (visible_before s (n + 1 + d)))
      before p =
          ⊎_elim
          (λ q. simp (lt-ltb n (first_visible s) p, lt-leb (first_visible s) (n + d) q, none_to_first (n + 1) (omega arith), none_to_first (n + 1 + d) (omega arith)))
          (λ q. simp (lt-ltb n (first_visible s) p, le-leb (first_visible s) (n + d) q, none_to_first (n + 1) (omega arith), lt-ltb 0 (visible_before s (n + 1 + d)) (some_from_first (n + 1 + d) (omega arith))))
          (below (n + d) (first_visible s))

  -- it lies wholly before the first visible tick, and what it looks at inside the field, which may show nothing
  pub leads_inside : (n : ℕ) → n < field_ticks s → leads s n ≡ true → (n < first_visible s) × (n + 1 + s.transferdelay.0 ≤ field_ticks s)
  leads_inside n inside e =
      let both = both_hold (ltb n (first_visible s)) (leb (first_visible s) (n + s.transferdelay.0)) (leads_by n ∙ e) in
      let before = ltb-true n (first_visible s) both.0 in
      let reached = leb-true (first_visible s) (n + s.transferdelay.0) both.1 in
      (before, ⊎_elim (near before) (λ q. absurd (beyond reached q)) (below first.half (halves_in_field s)))
    where
      field : field_ticks s ≡ tick_number s (halves_in_field s) 0
      field = omega (arith, mul_comm (half_ticks s) (halves_in_field s))

      near : n < first_visible s → first.half < halves_in_field s → n + 1 + s.transferdelay.0 ≤ field_ticks s
      near p q = omega (arith, p, field, first.number, first.at_most, mul-le-mul_right (half_ticks s) q, ok.half_holds, ok.delay_short)

      beyond : first_visible s ≤ n + s.transferdelay.0 → halves_in_field s ≤ first.half → ⊥
      beyond p q = omega (arith, p, inside, field, first.number, first.far q, mul-le-mul_right (half_ticks s) q, ok.delay_below)

-- THE FIRST FIELD ALWAYS SHOWS SOMETHING: it begins with a first half in either format, and Display begins in a line's first half
first_lead : (control : ℕ) (s : Screen) → Accepted control s → (b : Bool) → s.interlaced ≡ b → lead (in_field false s) ≡ 0
first_lead control s ok true n = lead_first control s ok n
first_lead control s ok false n = lead_none control (in_field false s) (accepted_in s false ok) n

pub first_field_some : (control : ℕ) (s : Screen) → Accepted control s → 0 < field_visible (in_field false s)
unfolding first_visible
first_field_some control s ok =
    let t = in_field false s in
    let k = accepted_in s false ok in
    let bare = first_lead control s ok s.interlaced refl in
    let early : first_visible t ≡ tick_number s (halves_to_vdisplay s) 0 + display_from s = simp bare in
    let last : halves_to_vdisplay s + 1 ≤ halves_in_field s = omega (arith, ok.bounded.vdisplay.low) in
    rw (← (field_visible_lem control t k))
    (some_from_first control t k (field_ticks s) (omega (arith, early, mul_comm (half_ticks s) (halves_in_field s), mul-le-mul_right (half_ticks s) last, ok.half_holds)))
