-- A whole field is its ticks, in every mode: one induction over the ticks of a field. A frame is one field or two. Assumes nothing.
use Prim.Native.Nat.{ℕ, zero, suc, ◌+◌, ◌-◌, ◌*◌, ◌/◌, ◌≤◌, ◌<◌, pred}
use mathlib.Core.Bool.{Bool, true, false, not, cond, ◌&&◌, ◌||◌, or-false, true≢false}
use mathlib.Core.List.{List, ◌++◌}
use mathlib.Core.Path.{◌≡◌, refl, sym, ap, subst, ◌∙◌}
use native.Mathlib.Nat.{suc-pred-eq_of_pos, zero-add}
use native.Mathlib.Numerals.{add-one}
use native.Mathlib.Omega.{arith}
use lib.Dec.{ltb, eqb}
use borrow.Author.Tests.{lt-ltb}
use Rattle.base.specs.Count.{some, run}
use Rattle.base.proofs.Run.{run_append}
use Rattle.control.specs.Control.{running}
use Rattle.units.specs.Parameters.{field_ticks, row_length}
use Rattle.screen.specs.Limits.{Accepted}
use Rattle.screen.specs.Totals.{frame_ticks}
use Rattle.screen.proofs.limits.Laws.{accepted_in}
use Rattle.units.specs.declared.Screen.{Screen}
use Rattle.registers.specs.declared.Registers.{Registers}
use Rattle.lines.specs.Lines.{closes, next_second}
use Rattle.generator.specs.Rows.{screen, field_at, visible_at, top_used, taken, held_address, asks}
use Rattle.generator.specs.Tick.{dots, refuses20, sums_after, seen_after, step_with, step, signals_with, tick_refusal, tick_of, after}
use Rattle.generator.specs.Dark.{ticks_to_vdisplay}
use Rattle.generator.specs.Sound.{Sound, Placed}
use Rattle.generator.specs.declared.Generator.{Generator}
use Rattle.generator.proofs.FirstVisible.{first_field_some}
use Rattle.generator.proofs.Rows.{top_used_in}
use Rattle.generator.proofs.Kept.{closes_before, closes_last, half_first, at_first, same_field, other_field, after_sound}
use Rattle.frame.specs.Frame.{AtField, AtStart, drawn, refused_within, ticks_seen, row_address, address_at, dot_for, field_dots, sums_to, field_refuses20, picture_refuses20, field_end, frame_end, Whole}
use Rattle.frame.specs.Gather.{gathered}
use Rattle.frame.proofs.Some.{some_on}
use Rattle.frame.proofs.Gather.{after_add, gathered_on, refused_on, ticks_one, ticks_two, in_fields_one, in_fields_two}
use Rattle.frame.proofs.Place.{AtTick, tick_on, ticks_some, at_start, seen_none, end_at, end_half, end_seen, end_past, lit_past}
use Rattle.frame.proofs.Rows.{held_lit, held_row, taken_row, cleared_row, dots_run, sums_row, stops, refuses_lit, stops_some}
use Rattle.base.proofs.Bools.{neither_holds}
use Rattle.base.proofs.Some.{some_at}

-- a whole field is its ticks, in every mode; a: the request at the last visible tick before it
pub record WholeField (r : Registers) (m : List ℕ) (f a : Bool) (g : Generator) : Type 0 where
  pub refusal : refused_within r m g (field_ticks (screen r)) ≡ field_refuses20 r m f
  pub colours : field_refuses20 r m f ≡ false → drawn r m g (field_ticks (screen r)) ≡ field_dots r m f
  pub end : field_refuses20 r m f ≡ false → after r m g (field_ticks (screen r)) ≡ field_end r f m a

-- ticks that nothing refuses
unfoldable steps : Registers → List ℕ → Generator → ℕ → Generator
steps r m g zero = g
steps r m g (suc n) = step r m (steps r m g n)

-- the generator before tick n of a field, registers untouched since the field's start; a: the request at the last visible tick before the field
pub record Before (r : Registers) (m : List ℕ) (f a : Bool) (n : ℕ) (g : Generator) : Type 0 where
  pub at : AtTick (field_at r g) n g
  pub field : g.second ≡ f
  pub held : ticks_to_vdisplay (screen r) < n → g.held ≡ row_address r f ((g.seen.0 - 1) / row_length (screen r))
  pub sums : ticks_to_vdisplay (screen r) < n → g.sums ≡ sums_to r f m g.seen.0
  pub asked : g.asked ≡ cond (ltb 0 g.seen.0) (asks r.control (screen r) (g.seen.0 - 1)) a

module _ (r : Registers) (m : List ℕ) (f a : Bool) (runs : running r.control ≡ true) (ok : Accepted r.control (screen r)) (fits : top_used r f ≤ 0xFFFFFF) where
  abbrev S : Screen
  S = screen r

  abbrev F : ℕ
  F = field_ticks (screen r)

  -- the field's visible ticks
  abbrev N : ℕ
  N = ticks_seen r f

  module _ (n : ℕ) (g : Generator) (i : Before r m f a n g) where
    okay : Accepted r.control (field_at r g)
    okay = accepted_in S g.second ok

    past : visible_at r g ≡ true → ticks_to_vdisplay S ≤ n
    unfolding visible_at
    past l = lit_past r.control (field_at r g) okay n g i.at l

    row : ticks_to_vdisplay S ≤ n → taken r g ≡ row_address r f ((g.seen.0 - 1) / row_length S)
    row p = taken_row r f ok fits n g i.at i.field i.held p

    pub row_lit : visible_at r g ≡ true → held_address r g ≡ address_at r f g.seen.0
    row_lit l = held_lit r f ok fits g (row (past l)) l

    row_on : ticks_to_vdisplay S ≤ n → held_address r g ≡ row_address r f ((seen_after r g - 1) / row_length S)
    row_on p = held_row r f ok fits g (row p)

    sums_on : ticks_to_vdisplay S ≤ n → sums_after r m g ≡ sums_to r f m (seen_after r g)
    sums_on p = sums_row r f m g i.field row_lit (cleared_row r f ok fits n g i.at i.field m i.sums p)

    asked_on : cond (visible_at r g) (asks r.control S g.seen.0) g.asked ≡ cond (ltb 0 (seen_after r g)) (asks r.control S (seen_after r g - 1)) a
    unfolding seen_after
    asked_on = go (visible_at r g)
      where
        go : (x : Bool) → cond x (asks r.control S g.seen.0) g.asked ≡ cond (ltb 0 (cond x (g.seen.0 + 1) g.seen.0)) (asks r.control S (cond x (g.seen.0 + 1) g.seen.0 - 1)) a
        go true = let k : g.seen.0 + 1 - 1 ≡ g.seen.0 = omega arith in simp (lt-ltb 0 (g.seen.0 + 1) (omega arith)) (rw k)
        go false = i.asked

    stays : n + 1 < F → closes (field_at r g) g.half.0 g.at.0 ≡ false
    stays p = closes_before (field_at r g) g.half.0 g.at.0 i.at.placed.half_in i.at.placed.at_in (omega (arith, i.at.number))

    seen_on : n + 1 < F → (step r m g).seen.0 ≡ seen_after r g
    unfolding step_with
    seen_on p = simp (stays p)

    -- a tick inside the field
    before_on : n + 1 < F → Before r m f a (n + 1) (step r m g)
    unfolding step_with
    before_on p =
        let l = stays p in
        record {
          at = tick_on r ok n g (sums_after r m g) i.at p;
          field = same_field (field_at r g) g.half.0 g.at.0 l ∙ i.field;
          held = λ q. simp l (row_on (omega arith));
          sums = λ q. simp l (sums_on (omega arith));
          asked = simp l asked_on;
        }

    seen_end : n + 1 ≡ F → seen_after r g ≡ N
    unfolding seen_after visible_at
    seen_end e = end_seen r.control (field_at r g) okay n g i.at e ∙ ap (λ (x : Bool). ticks_seen r x) i.field

    -- the last one
    ends : n + 1 ≡ F → step r m g ≡ field_end r f m a
    unfolding step_with field_end
    ends e =
        let v : seen_after r g ≡ N = seen_end e in
        let p = end_past r.control (field_at r g) okay n g i.at e in
        let u = end_at r.control (field_at r g) okay n g i.at e in
        let h = end_half r.control (field_at r g) okay n g i.at e in
        let e1 = half_first (field_at r g) g.half.0 g.at.0 u h in
        let e2 = at_first (field_at r g) g.half.0 g.at.0 u in
        let e3 = closes_last (field_at r g) g.half.0 g.at.0 i.at.placed.half_in i.at.placed.at_in (omega (arith, i.at.number)) in
        let e4 : held_address r g ≡ address_at r f (N - 1) = rw v at (row_on p) in
        let e5 : cond (visible_at r g) (asks r.control S g.seen.0) g.asked ≡ cond (ltb 0 N) (asks r.control S (N - 1)) a = rw v at asked_on in
        let e6 : sums_after r m g ≡ sums_to r f m N = rw v at (sums_on p) in
        let e7 : next_second (field_at r g) g.half.0 g.at.0 ≡ (S.interlaced && not f) = other_field (field_at r g) g.half.0 g.at.0 e3 ∙ ap (λ (x : Bool). S.interlaced && not x) i.field in
        rw (e1, e2, e3, e4, e5, e6, e7)

  tick_refused : (g : Generator) → eqb (tick_of r m g).refusal 20 ≡ refuses20 r m g
  unfolding tick_of tick_refusal
  tick_refused g = go (refuses20 r m g) refl
    where
      go : (x : Bool) → refuses20 r m g ≡ x → eqb (tick_of r m g).refusal 20 ≡ x
      go true e = simp (runs, e)
      go false e = simp (runs, e)

  tick_next : (g : Generator) → refuses20 r m g ≡ false → (tick_of r m g).next ≡ step r m g
  unfolding tick_of tick_refusal
  tick_next g e = simp (runs, e)

  tick_dots : (g : Generator) → refuses20 r m g ≡ false → (tick_of r m g).signals.dots ≡ dots r m g
  unfolding tick_of tick_refusal signals_with
  tick_dots g e = simp (runs, e)

  module _ (g : Generator) (placed : Placed (field_at r g) g) (b : AtField f g) (b' : g.asked ≡ a) where
    okay_here : Accepted r.control (field_at r g)
    okay_here = accepted_in S g.second ok

    starts : Before r m f a 0 g
    starts =
        record {
          at = at_start r.control (field_at r g) okay_here g placed b;
          field = b.field;
          held = λ q. absurd (omega arith);
          sums = λ q. absurd (omega arith);
          asked = b' ∙ sym (simp (seen_none r.control (field_at r g) okay_here g placed b));
        }

    steps_before : (n : ℕ) → n < F → Before r m f a n (steps r m g n)
    unfolding steps
    steps_before zero p = starts
    steps_before (suc n) p = rw (← add-one) (before_on n (steps r m g n) (steps_before n (omega arith)) (omega arith))

    last : ℕ
    last = pred F

    last_is : suc last ≡ F
    unfolding last
    last_is = suc-pred-eq_of_pos (ticks_some r.control S ok)

    -- what holds of visible ticks 0 to v - 1 holds of the ticks run, v being those seen: of each tick, and of the whole field
    module _ (P : ℕ → ℕ → Type 0)
        (base : P 0 0)
        (on : (n : ℕ) → n < F → P n (steps r m g n).seen.0 → P (suc n) (seen_after r (steps r m g n))) where
      each : (n : ℕ) → n < F → P n (steps r m g n).seen.0
      unfolding steps
      each zero p = rw (seen_none r.control (field_at r g) okay_here g placed b) base
      each (suc n) p =
          let q : n < F = omega arith in
          rw (seen_on n (steps r m g n) (steps_before n q) (omega arith)) (on n q (each n q))

      over : (n : ℕ) → suc n ≡ F → P F (N)
      over n e =
          let q : n < F = omega arith in
          subst (λ (k : ℕ). P k (N)) e
          (rw (seen_end n (steps r m g n) (steps_before n q) (omega arith)) at (on n q (each n q)))

      by_steps : P F (N)
      by_steps = over last last_is

    -- ---- refusals

    Stopped : ℕ → ℕ → Type 0
    Stopped n v = some (λ k. refuses20 r m (steps r m g k)) n ≡ some (stops r f m) v

    stopped_first : Stopped 0 0
    unfolding some Stopped
    stopped_first = refl

    stopped_on : (n : ℕ) → n < F → Stopped n (steps r m g n).seen.0 → Stopped (suc n) (seen_after r (steps r m g n))
    unfolding some seen_after Stopped
    stopped_on n p e =
        rw (e, refuses_lit r f m (steps r m g n) (row_lit n (steps r m g n) (steps_before n p)))
        (some_on (stops r f m) (visible_at r (steps r m g n)) (steps r m g n).seen.0)

    field_stops : some (λ k. refuses20 r m (steps r m g k)) F ≡ field_refuses20 r m f
    unfolding field_refuses20 Stopped
    field_stops = by_steps Stopped stopped_first stopped_on ∙ stops_some r f m (N)

    -- while nothing is refused, the ticks are the steps
    after_steps : (n : ℕ) → some (λ k. refuses20 r m (steps r m g k)) n ≡ false → after r m g n ≡ steps r m g n
    unfolding after steps some
    after_steps zero e = refl
    after_steps (suc n) e =
        let a = after_steps n (neither_holds (some (λ k. refuses20 r m (steps r m g k)) n) _ e).0 in
        ap (λ (x : Generator). (tick_of r m x).next) a ∙ tick_next (steps r m g n) (neither_holds (some (λ k. refuses20 r m (steps r m g k)) n) _ e).1

    -- and one is refused exactly where a step would be
    refused_steps : (n : ℕ) → refused_within r m g n ≡ some (λ k. refuses20 r m (steps r m g k)) n
    unfolding refused_within some
    refused_steps zero = refl
    refused_steps (suc n) = rw (refused_steps n, tick_refused (after r m g n)) (go (some (λ k. refuses20 r m (steps r m g k)) n) refl)
      where
        go : (x : Bool) → some (λ k. refuses20 r m (steps r m g k)) n ≡ x → (x || refuses20 r m (after r m g n)) ≡ (x || refuses20 r m (steps r m g n))
        go true e = refl
        go false e = ap (refuses20 r m) (after_steps n e)

    -- ---- a field that is not refused

    module _ (z : field_refuses20 r m f ≡ false) where
      -- none of its ticks is
      down : (n : ℕ) → some (λ k. refuses20 r m (steps r m g k)) (suc n) ≡ false → some (λ k. refuses20 r m (steps r m g k)) n ≡ false
      unfolding some
      down n e = (neither_holds (some (λ k. refuses20 r m (steps r m g k)) n) _ e).0

      clear : (k n : ℕ) → n + k ≡ F → some (λ k. refuses20 r m (steps r m g k)) n ≡ false
      clear zero n e = let q : n ≡ F = omega arith in rw q (field_stops ∙ z)
      clear (suc k) n e = down n (clear k (suc n) (omega arith))

      same : (n : ℕ) → n ≤ F → after r m g n ≡ steps r m g n
      same n p = after_steps n (clear (F - n) n (omega arith))

      pub unrefused : (n : ℕ) → n < F → refuses20 r m (after r m g n) ≡ false
      unfolding some
      unrefused n p = rw (same n (omega arith)) (neither_holds (some (λ k. refuses20 r m (steps r m g k)) n) _ (clear (F - suc n) (suc n) (omega arith))).1

      -- where the generator stands before each of its ticks
      pub before_tick : (n : ℕ) → n < F → Before r m f a n (after r m g n)
      before_tick n p = rw (same n (omega arith)) (steps_before n p)

      -- what each visible tick adds to, by the visible ticks seen, the whole field adds up to
      pub by_ticks : (P : ℕ → ℕ → Type 0) → P 0 0 → ((n : ℕ) → n < F → P n (after r m g n).seen.0 → P (suc n) (seen_after r (after r m g n))) → P F (N)
      by_ticks P base on = by_steps P base (λ n p q. rw (← (same n (omega arith))) (on n p (rw (same n (omega arith)) q)))

      Coloured : ℕ → ℕ → Type 0
      Coloured n v = drawn r m g n ≡ run (dot_for r f m) 0 (4 * v)

      coloured_first : Coloured 0 0
      unfolding Coloured gathered run
      coloured_first = refl

      coloured_on : (n : ℕ) → n < F → Coloured n (after r m g n).seen.0 → Coloured (suc n) (seen_after r (after r m g n))
      unfolding Coloured gathered seen_after
      coloured_on n p e = rw (e, tick_dots (after r m g n) (unrefused n p)) (go (visible_at r (after r m g n)) refl)
        where
          v : ℕ
          v = (after r m g n).seen.0

          go : (x : Bool) → visible_at r (after r m g n) ≡ x →
              cond x (run (dot_for r f m) 0 (4 * v) ++ dots r m (after r m g n)) (run (dot_for r f m) 0 (4 * v)) ≡ run (dot_for r f m) 0 (4 * cond x (v + 1) v)
          go true l =
              let k : 4 * (v + 1) ≡ 4 * v + 4 = omega arith in
              rw (k, run_append, zero-add, dots_run r f m (after r m g n) (before_tick n p).field l (row_lit n (after r m g n) (before_tick n p) l))
          go false l = refl

      coloured : drawn r m g F ≡ run (dot_for r f m) 0 (4 * N)
      unfolding Coloured
      coloured = by_ticks Coloured coloured_first coloured_on

      ended_by : (n : ℕ) → suc n ≡ F → after r m g F ≡ field_end r f m a
      unfolding steps
      ended_by n e =
          let q : n < F = omega arith in
          same F (omega arith) ∙ rw (← e) (ends n (steps r m g n) (steps_before n q) (omega arith))

    pub field_is : WholeField r m f a g
    field_is =
        record {
          refusal = refused_steps F ∙ field_stops;
          colours = coloured;
          end = λ z. ended_by z last last_is;
        }

-- ---- a frame

-- a field ends at another one's start, and of two that show something all but the field is the same whatever was asked before
pub field_end_start : (r : Registers) (f : Bool) (m : List ℕ) (a : Bool) → AtField ((screen r).interlaced && not f) (field_end r f m a)
unfolding field_end
field_end_start r f m a = record { field = refl; half = refl; at = refl }

pub first_end : (r : Registers) → Accepted r.control (screen r) → (m : List ℕ) (a b : Bool) → field_end r false m a ≡ field_end r false m b
unfolding field_end
first_end r ok m a b = simp (lt-ltb 0 (ticks_seen r false) (first_field_some r.control (screen r) ok))

pub frame_end_start : (r : Registers) (m : List ℕ) → AtStart (frame_end r m)
unfolding frame_end field_end
frame_end_start r m = go (screen r).interlaced refl
  where
    go : (x : Bool) → (screen r).interlaced ≡ x → AtStart (cond x (field_end r true m (field_end r false m false).asked) (field_end r false m false))
    go true e = record { field = simp e; half = refl; at = refl }
    go false e = record { field = simp e; half = refl; at = refl }

module _ (r : Registers) (m : List ℕ) (g : Generator) (z : Sound r g) (on : running r.control ≡ true) (b : AtStart g) where
  abbrev T : ℕ
  T = field_ticks (screen r)

  okay_frame : Accepted r.control (screen r)
  okay_frame = z.accepted on

  one : WholeField r m false g.asked g
  one = field_is r m false g.asked on okay_frame (top_used_in r z.widths false) g (z.placed on) b refl

  -- the generator between the fields
  abbrev between : Generator
  between = after r m g T

  module _ (first : field_refuses20 r m false ≡ false) where
    pub between_is : between ≡ field_end r false m false
    between_is = one.end first ∙ first_end r okay_frame m g.asked false

    module _ (laced : (screen r).interlaced ≡ true) where
      pub between_start : AtField true between
      between_start = rw between_is (subst (λ (x : Bool). AtField x (field_end r false m false)) (simp laced) (field_end_start r false m false))

      pub between_sound : Sound r between
      between_sound = after_sound r m g z T

      pub two : WholeField r m true between.asked between
      two = field_is r m true between.asked on okay_frame (top_used_in r z.widths true) between (between_sound.placed on) between_start refl

  first_unrefused : picture_refuses20 r m ≡ false → field_refuses20 r m false ≡ false
  first_unrefused e = (neither_holds (field_refuses20 r m false) ((screen r).interlaced && field_refuses20 r m true) e).0

  -- one field
  module _ (n : (screen r).interlaced ≡ false) where
    frame_of_one : Whole r m g
    unfolding frame_end
    frame_of_one =
        record {
          refusal = rw (ticks_one r n) (one.refusal ∙ sym (simp n (or-false (field_refuses20 r m false))));
          colours = λ e. rw (ticks_one r n) (one.colours (first_unrefused e) ∙ sym (in_fields_one r (field_dots r m) n));
          end = λ e. rw (ticks_one r n) (between_is (first_unrefused e) ∙ sym (simp n));
        }

  -- two
  module _ (n : (screen r).interlaced ≡ true) where
    both_refused : refused_within r m g (T + T) ≡ (field_refuses20 r m false || field_refuses20 r m true)
    both_refused = refused_on r m g T T ∙ rw one.refusal (go (field_refuses20 r m false) refl)
      where
        go : (x : Bool) → field_refuses20 r m false ≡ x → (x || refused_within r m between T) ≡ (x || field_refuses20 r m true)
        go true e = refl
        go false e = (two e n).refusal

    second_unrefused : picture_refuses20 r m ≡ false → field_refuses20 r m true ≡ false
    second_unrefused e = sym (simp n) ∙ (neither_holds (field_refuses20 r m false) ((screen r).interlaced && field_refuses20 r m true) e).1

    frame_of_two : Whole r m g
    unfolding frame_end
    frame_of_two =
        record {
          refusal = rw (ticks_two r n) (both_refused ∙ sym (simp n));
          colours = λ e.
              rw (ticks_two r n)
              (gathered_on r m g T T (visible_at r) (λ x. (tick_of r m x).signals.dots)
              ∙ rw (one.colours (first_unrefused e), (two (first_unrefused e) n).colours (second_unrefused e)) (sym (in_fields_two r (field_dots r m) n)));
          end = λ e.
              rw (ticks_two r n)
              (after_add r m g T T ∙ (two (first_unrefused e) n).end (second_unrefused e) ∙ sym (simp n (ap (λ (x : Generator). field_end r true m x.asked) (sym (between_is (first_unrefused e))))));
        }

  frame_is : (x : Bool) → (screen r).interlaced ≡ x → Whole r m g
  frame_is false n = frame_of_one n
  frame_is true n = frame_of_two n

-- A WHOLE FRAME IS ITS TICKS, in every mode
pub whole : (r : Registers) (m : List ℕ) (g : Generator) → Sound r g → running r.control ≡ true → AtStart g → Whole r m g
whole r m g z on b = frame_is r m g z on b (screen r).interlaced refl

-- so a frame that the picture does not refuse has no tick that is refused
pub unrefused_frame : (r : Registers) (m : List ℕ) (g : Generator) → Sound r g → running r.control ≡ true → AtStart g → picture_refuses20 r m ≡ false → (k : ℕ) → k < frame_ticks (screen r) → (tick_of r m (after r m g k)).refusal ≡ 0
unfolding refused_within tick_of tick_refusal
unrefused_frame r m g z on b e k l = go (refuses20 r m (after r m g k)) refl
  where
    go : (x : Bool) → refuses20 r m (after r m g k) ≡ x → (tick_of r m (after r m g k)).refusal ≡ 0
    go false q = simp (on, q)
    go true q =
        absurd (true≢false (sym (some_at (λ i. eqb (tick_of r m (after r m g i)).refusal 20) (frame_ticks (screen r)) k l (tick_refused r m false false on (z.accepted on) (top_used_in r z.widths false) (after r m g k) ∙ q)) ∙ (whole r m g z on b).refusal ∙ e))
