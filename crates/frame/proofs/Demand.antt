-- Demand 3 of every frame that is ready to start: the counts and lists of a field, by one induction over its ticks each, from what its visible
-- ticks add; and a frame has those of its one field or both. Assumes nothing.
use Prim.Native.Nat.{ℕ, zero, suc, ◌+◌, ◌-◌, ◌*◌, ◌/◌, ◌%◌, ◌^◌, ◌≤◌, ◌<◌}
use mathlib.Core.Bool.{Bool, true, false, not, cond, ◌&&◌, true≢false}
use mathlib.Core.List.{List, [], ◌∷◌, ◌++◌}
use mathlib.Core.Logic.{⊎_elim}
use mathlib.Core.Path.{◌≡◌, refl, sym, ap, subst, ◌∙◌}
use native.Mathlib.Nat.{mod-lt, mod-eq_of_lt, mod-add-mod, add-zero, div-eq_of_lt-le, div-lt_iff_lt-mul, div-add-mod', mul-le-mul_right, zero-add}
use native.Mathlib.Omega.{arith}
use borrow.Author.Tests.{eqb-true, eqb-false, ltb-false, le-ltb}
use lib.Dec.{ltb, eqb}
use lib.ListN.{length, length-append}
use Rattle.base.specs.Count.{count, some, run}
use Rattle.base.proofs.Run.{run_length, run_append, run_same}
use Rattle.control.specs.Control.{running, forced_blank, transferring, increment, offset, pixel_bits}
use Rattle.units.specs.Parameters.{in_field, field_ticks, row_length}
use Rattle.screen.specs.Limits.{Accepted}
use Rattle.screen.specs.Totals.{frame_ticks, frame_visible, frame_transfers, frame_pixels, rounded_up}
use Rattle.units.specs.declared.Screen.{Screen}
use Rattle.registers.specs.declared.Registers.{Registers}
use Rattle.memory.specs.Memory.{ends_beyond}
use Rattle.pixel.specs.Sums.{none, summed}
use Rattle.generator.specs.Rows.{screen, field_at, visible_at, shows, top_used, transfer_at, held_address, place}
use Rattle.generator.specs.Tick.{position_used, dot_of, refuses20, seen_after, signals, signals_with, tick_refusal, tick_of, after}
use Rattle.generator.specs.Sound.{Sound}
use Rattle.generator.specs.declared.Generator.{Generator}
use Rattle.signals.specs.Signals.{colours_of}
use Rattle.signals.specs.declared.Dot.{Dot}
use Rattle.signals.specs.declared.Signals.{Signals}
use Rattle.lines.specs.Lines.{lead}
use Rattle.frame.specs.Gather.{gathered}
use Rattle.frame.specs.Frame.{AtField, AtStart, FieldOf, in_fields, drawn, ticks_seen, pixels_seen, row_address, address_at, place_at, dot_for, field_dots, sums_to, field_refuses20, picture_refuses20, field_end, Whole}
use Rattle.frame.specs.Demand.{answer, is_shown, is_transfer, addresses_answered, places_shown, first_address, transfers_seen, addresses_of, field_place, places_of, field_dot, Ready, Demand3}
use Rattle.base.proofs.Some.{some_none}
use Rattle.screen.proofs.limits.Laws.{accepted_in}
use Rattle.generator.proofs.Rows.{top_used_in, row_number_on}
use Rattle.frame.proofs.Place.{ticks_some, rows_some, start_number}
use Rattle.frame.proofs.Rows.{by_four}
use Rattle.frame.proofs.Whole.{Before, field_is, frame_end_start, row_lit, unrefused as unrefused-tick, before_tick, by_ticks, between_start, between_sound, whole}
use Rattle.frame.proofs.Gather.{after_add, count_on, ticks_one, ticks_two, in_fields_one, in_fields_two, by_fields}
use Rattle.generator.proofs.VisibleBefore.{plain_visible, fields_visible}
use Rattle.base.proofs.Bools.{below}

-- ---- rows, rounded up

-- v and one more over d, rounded up: at a multiple a row begins, elsewhere none
up_at : (v d : ℕ) → 0 < d → v % d ≡ 0 → (rounded_up v d ≡ v / d) × (rounded_up (v + 1) d ≡ v / d + 1)
up_at v d p z = (
  div-eq_of_lt-le d (omega (arith, div-add-mod' v d)) (omega (arith, div-add-mod' v d)),
  div-eq_of_lt-le d (omega (arith, div-add-mod' v d)) (omega (arith, div-add-mod' v d)),
)

up_in : (v d : ℕ) → 0 < d → (v % d ≡ 0 → ⊥) → rounded_up (v + 1) d ≡ rounded_up v d
up_in v d p z =
    let m : v % d < d = mod-lt v p in
    let a : rounded_up v d ≡ v / d + 1 = div-eq_of_lt-le d (omega (arith, div-add-mod' v d)) (omega (arith, div-add-mod' v d)) in
    let b : rounded_up (v + 1) d ≡ v / d + 1 = div-eq_of_lt-le d (omega (arith, div-add-mod' v d)) (omega (arith, div-add-mod' v d)) in
    cc

-- a number below n is in one of n's rows
row_below : (v n d : ℕ) → 0 < d → v < n → v / d < rounded_up n d
row_below v n d p l =
    let m : (n + (d - 1)) % d < d = mod-lt (n + (d - 1)) p in
    (div-lt_iff_lt-mul {k = d} p).1 (omega (arith, div-add-mod' (n + (d - 1)) d))

-- pixel k of visible tick v, on a line of d visible ticks
line_of : (d v k : ℕ) → 0 < d → k < 4 → (4 * v + k) / (4 * d) ≡ v / d
line_of d v k p l = div-eq_of_lt-le (4 * d) (omega (arith, div-add-mod' v d)) (omega (arith, div-add-mod' v d, mod-lt v p))

column_of : (d v k : ℕ) → 0 < d → k < 4 → (4 * v + k) % (4 * d) ≡ 4 * (v % d) + k
column_of d v k p l =
    let e : v / d * (4 * d) + (4 * v + k) % (4 * d) ≡ 4 * v + k = rw (line_of d v k p l) at (div-add-mod' (4 * v + k) (4 * d)) in
    omega (arith, div-add-mod' v d)

-- one entry more at a run's end
run_more : (f : ℕ → ℕ) (n : ℕ) → run f 0 (n + 1) ≡ run f 0 n ++ (f n ∷ [])
unfolding run
run_more f n = run_append f 0 n 1 ∙ rw zero-add

-- ---- a field's places, in closed form

-- the address of row j, before it is rolled over
address_of : (r : Registers) (f : Bool) (j : ℕ) → row_address r f j ≡ (first_address r f + j * increment r.control) % 2 ^ 24
unfolding row_address top_used
address_of r true j = mod-add-mod (r.top + offset r.control) (2 ^ 24) (j * increment r.control)
address_of r false j = rw add-zero

-- where no address of the field rolls over
module _ (r : Registers) (f : Bool) (ok : Accepted r.control (screen r)) (unrolled : (j : ℕ) → j < transfers_seen r f → first_address r f + j * increment r.control ≤ 0xFFFFFF) where
  abbrev R : ℕ
  R = row_length (screen r)

  abbrev I : ℕ
  I = increment r.control

  -- its visible ticks
  abbrev N : ℕ
  N = ticks_seen r f

  row_unrolled : (j : ℕ) → j < transfers_seen r f → row_address r f j ≡ first_address r f + j * I
  row_unrolled j l = address_of r f j ∙ mod-eq_of_lt (omega (arith, unrolled j l))

  -- the places of a tick's four pixels
  place_on : (v k : ℕ) → v < N → k < 4 → place r (address_at r f v) v k ≡ field_place r f (4 * v + k)
  unfolding place field_place
  place_on v k l p =
      let row = rows_some r.control (screen r) ok in
      rw (row_unrolled (v / R) (row_below v N R row l), row_number_on r (first_address r f) (v / R), line_of R v k row p, column_of R v k row p) (omega arith)

  place_at_lem : (i : ℕ) → i < 4 * N → place_at r f i ≡ field_place r f i
  unfolding place_at
  place_at_lem i l =
      let e : 4 * (i / 4) + i % 4 ≡ i = omega arith in
      place_on (i / 4) (i % 4) (omega arith) (omega arith) ∙ rw e

  -- memory for each place is memory enough
  unrefused_field : (m : List ℕ) → ((i : ℕ) → i < pixels_seen r f → (field_place r f i + 1) * pixel_bits r.control ≤ 8 * length m) → field_refuses20 r m f ≡ false
  unfolding field_refuses20
  unrefused_field m room =
      rw (some_none (λ i. ends_beyond (pixel_bits r.control) m (place_at r f i)) (4 * N) (λ i l. rw (place_at_lem i l) (le-ltb (8 * length m) ((field_place r f i + 1) * pixel_bits r.control) (room i l))))
      (none (not (forced_blank r.control)) (transferring r.control))
    where
      none : (a b : Bool) → (a && (b && false)) ≡ false
      none true true = refl
      none true false = refl
      none false b = refl

  -- the colour of each pixel
  dot_on : (m : List ℕ) (v k : ℕ) → v < N → k < 4 → dot_of r f m (address_at r f v) v k ≡ field_dot r f m (4 * v + k)
  unfolding dot_of field_dot
  dot_on m v k p q =
      let D = (screen r).display.0 in
      let some = ok.bounded.display.low in
      let e : 4 * v + k + 4 * lead (in_field f (screen r)) ≡ 4 * (v + lead (in_field f (screen r))) + k = omega arith in
      rw (place_on v k p q, e, column_of D (v + lead (in_field f (screen r))) k some q, line_of D (v + lead (in_field f (screen r))) k some q)

  dot_is : (m : List ℕ) → forced_blank r.control ≡ false → (i : ℕ) → i < 4 * N → dot_for r f m i ≡ field_dot r f m i
  unfolding dot_for
  dot_is m unblanked i l =
      let e : 4 * (i / 4) + i % 4 ≡ i = omega arith in
      simp unblanked (dot_on m (i / 4) (i % 4) (omega arith) (omega arith) ∙ rw e)

-- a field about to start, of a frame that is ready
pub record FieldReady (r : Registers) (m : List ℕ) (f : Bool) (g : Generator) : Type 0 where
  pub sound : Sound r g
  pub runs : running r.control ≡ true
  pub start : AtField f g
  pub transfers : transferring r.control ≡ true
  pub unblanked : forced_blank r.control ≡ false
  pub room : (i : ℕ) → i < pixels_seen r f → (field_place r f i + 1) * pixel_bits r.control ≤ 8 * length m
  pub unrolled : (j : ℕ) → j < transfers_seen r f → first_address r f + j * increment r.control ≤ 0xFFFFFF

module _ (r : Registers) (m : List ℕ) (f : Bool) (g : Generator) (d : FieldReady r m f g) where
  abbrev S : Screen
  S = screen r

  -- its ticks, and the visible ones
  abbrev F : ℕ
  F = field_ticks (screen r)

  abbrev M : ℕ
  M = ticks_seen r f

  ok : Accepted r.control S
  ok = d.sound.accepted d.runs

  top_in : top_used r f ≤ 0xFFFFFF
  top_in = top_used_in r d.sound.widths f

  some_row : 0 < row_length S
  some_row = rows_some r.control S ok

  pub unrefused_here : field_refuses20 r m f ≡ false
  unrefused_here = unrefused_field r f ok d.unrolled m d.room

  before_here : (n : ℕ) → n < F → Before r m f g.asked n (after r m g n)
  before_here n l = before_tick r m f g.asked d.runs ok top_in g (d.sound.placed d.runs) d.start refl unrefused_here n l

  -- ---- one tick of the field

  abbrev G : ℕ → Generator
  G n = after r m g n

  module _ (n : ℕ) (l : n < F) where
    unrefused_now : refuses20 r m (G n) ≡ false
    unrefused_now = unrefused-tick r m f g.asked d.runs ok top_in g (d.sound.placed d.runs) d.start refl unrefused_here n l

    held_here : visible_at r (G n) ≡ true → held_address r (G n) ≡ address_at r f (G n).seen.0
    held_here = row_lit r m f g.asked d.runs ok top_in n (G n) (before_here n l)

    pub answered : (answer r m g n).refusal ≡ 0
    unfolding tick_of tick_refusal
    answered = simp (d.runs, unrefused_now)

    says : (answer r m g n).signals ≡ signals r m (G n)
    unfolding tick_of tick_refusal
    says = simp (d.runs, unrefused_now)

    pub shown_visible : is_shown r m g n ≡ visible_at r (G n)
    unfolding signals_with shows
    shown_visible = ap (λ (q : Signals). not q.blank) says ∙ simp d.unblanked (go (visible_at r (G n)))
      where
        go : (x : Bool) → not (not (x && true)) ≡ x
        go true = refl
        go false = refl

    transferred : is_transfer r m g n ≡ (visible_at r (G n) && eqb ((G n).seen.0 % row_length S) 0)
    unfolding signals_with transfer_at
    transferred = ap (λ (q : Signals). q.transfer) says ∙ simp d.transfers

    address_is : visible_at r (G n) ≡ true → eqb ((G n).seen.0 % row_length S) 0 ≡ true → (answer r m g n).signals.address ≡ address_at r f (G n).seen.0
    unfolding signals_with transfer_at
    address_is v e = ap (λ (q : Signals). q.address) says ∙ simp (d.transfers, v, e) (held_here v)

  -- ---- the counts and the lists, tick by tick

  by_field : (P : ℕ → ℕ → Type 0) → P 0 0 → ((n : ℕ) → n < F → P n (G n).seen.0 → P (suc n) (seen_after r (G n))) → P F M
  by_field P base on = by_ticks r m f g.asked d.runs ok top_in g (d.sound.placed d.runs) d.start refl unrefused_here P base on

  Seen : ℕ → ℕ → Type 0
  Seen n v = count (is_shown r m g) n ≡ v

  seen_first : Seen 0 0
  unfolding Seen count
  seen_first = refl

  seen_on : (n : ℕ) → n < F → Seen n (G n).seen.0 → Seen (suc n) (seen_after r (G n))
  unfolding Seen count seen_after
  seen_on n l e = rw (shown_visible n l, e)

  pub visible_ticks : count (is_shown r m g) F ≡ M
  unfolding Seen
  visible_ticks = by_field Seen seen_first seen_on

  Addressed : ℕ → ℕ → Type 0
  Addressed n v = addresses_answered r m g n ≡ run (row_address r f) 0 (rounded_up v (row_length S))

  addressed_first : Addressed 0 0
  unfolding Addressed gathered run
  addressed_first =
      let none : rounded_up 0 (row_length S) ≡ 0 = div-eq_of_lt-le (row_length S) (omega arith) (omega (arith, some_row)) in
      rw none

  addressed_on : (n : ℕ) → n < F → Addressed n (G n).seen.0 → Addressed (suc n) (seen_after r (G n))
  unfolding Addressed gathered seen_after
  addressed_on n l ih = rw (transferred n l, ih) (go (visible_at r (G n)) refl (eqb (v % row_length S) 0) refl)
    where
      v : ℕ
      v = (G n).seen.0

      go : (x : Bool) → visible_at r (G n) ≡ x → (y : Bool) → eqb (v % row_length S) 0 ≡ y →
          cond (x && y) (run (row_address r f) 0 (rounded_up v (row_length S)) ++ ((answer r m g n).signals.address ∷ [])) (run (row_address r f) 0 (rounded_up v (row_length S)))
          ≡ run (row_address r f) 0 (rounded_up (cond x (v + 1) v) (row_length S))
      go false ex y ey = refl
      go true ex false ey = rw (up_in v (row_length S) some_row (eqb-false (v % row_length S) 0 ey))
      go true ex true ey =
          let u = up_at v (row_length S) some_row (eqb-true (v % row_length S) 0 ey) in
          rw (address_is n l ex ey, u.0, u.1, run_more)

  addressed : addresses_answered r m g F ≡ run (row_address r f) 0 (transfers_seen r f)
  unfolding Addressed
  addressed = by_field Addressed addressed_first addressed_on

  Placed : ℕ → ℕ → Type 0
  Placed n v = places_shown r m g n ≡ run (place_at r f) 0 (4 * v)

  placed_first : Placed 0 0
  unfolding Placed gathered run
  placed_first = refl

  four_places : (v : ℕ) → run (place r (address_at r f v) v) 0 4 ≡ run (place_at r f) (4 * v) 4
  unfolding place_at
  four_places v = run_same (place r (address_at r f v) v) (place_at r f) 0 (4 * v) 4 (λ k l. let q = by_four v k l in simp (q.0, q.1, zero-add))

  placed_on : (n : ℕ) → n < F → Placed n (G n).seen.0 → Placed (suc n) (seen_after r (G n))
  unfolding Placed gathered seen_after
  placed_on n l ih = rw (shown_visible n l, ih) (go (visible_at r (G n)) refl)
    where
      v : ℕ
      v = (G n).seen.0

      go : (x : Bool) → visible_at r (G n) ≡ x →
          cond x (run (place_at r f) 0 (4 * v) ++ run (place r (held_address r (G n)) v) 0 4) (run (place_at r f) 0 (4 * v))
          ≡ run (place_at r f) 0 (4 * cond x (v + 1) v)
      go true ex =
          let k : 4 * (v + 1) ≡ 4 * v + 4 = omega arith in
          rw (k, run_append, zero-add, held_here n l ex, four_places v)
      go false ex = refl

  placed : places_shown r m g F ≡ run (place_at r f) 0 (4 * M)
  unfolding Placed
  placed = by_field Placed placed_first placed_on

  -- the lists of the field, in closed form
  pub field_addresses : addresses_answered r m g F ≡ addresses_of r f
  field_addresses = addressed ∙ run_same (row_address r f) _ 0 0 (transfers_seen r f) (λ j l. row_unrolled r f ok d.unrolled (0 + j) (rw zero-add l))

  pub field_places : places_shown r m g F ≡ places_of r f
  field_places = placed ∙ run_same (place_at r f) (field_place r f) 0 0 (4 * M) (λ i l. place_at_lem r f ok d.unrolled (0 + i) (rw zero-add l))

  pub field_drawn : drawn r m g F ≡ run (field_dot r f m) 0 (pixels_seen r f)
  field_drawn =
      (field_is r m f g.asked d.runs ok top_in g (d.sound.placed d.runs) d.start refl).colours unrefused_here
      ∙ run_same (dot_for r f m) (field_dot r f m) 0 0 (4 * M) (λ i l. dot_is r f ok d.unrolled m d.unblanked (0 + i) (rw zero-add l))

  -- and the sums that it leaves are those of what it drew
  pub field_sums : (after r m g F).sums ≡ summed none (colours_of (drawn r m g F))
  unfolding field_end sums_to
  field_sums =
      let w = field_is r m f g.asked d.runs ok top_in g (d.sound.placed d.runs) d.start refl in
      ap (λ (x : Generator). x.sums) (w.end unrefused_here) ∙ simp d.unblanked (ap (λ (l : List Dot). summed none (colours_of l)) (sym (w.colours unrefused_here)))

  -- it stands at its start before its first tick alone, and in its field before each
  pub field_only : {x : Bool} (k : ℕ) → k < F → AtField x (G k) → (k ≡ 0) × (x ≡ f)
  field_only k l b = let i = before_here k l in (start_number r.control (field_at r (G k)) (accepted_in S (G k).second ok) k (G k) i.at b, sym b.field ∙ i.field)

-- as many addresses are answered as ticks answer one
pub counted : (r : Registers) (m : List ℕ) (g : Generator) (n : ℕ) → count (is_transfer r m g) n ≡ length (addresses_answered r m g n)
unfolding count gathered
counted r m g zero = refl
counted r m g (suc n) = rw (counted r m g n) (go (is_transfer r m g n) (addresses_answered r m g n) (answer r m g n).signals.address)
  where
    go : (x : Bool) (l : List ℕ) (a : ℕ) → cond x (length l + 1) (length l) ≡ length (cond x (l ++ (a ∷ [])) l)
    go true l a = rw length-append
    go false l a = refl

-- ---- the frame, of one field or two

-- as many pixels as its fields have, whatever is said of each
pub frame_pixels_lem : {A : Type 0} (r : Registers) → Accepted r.control (screen r) → (each : Bool → ℕ → A) → length (in_fields r (λ f. run (each f) 0 (pixels_seen r f))) ≡ frame_pixels (screen r)
frame_pixels_lem {A = A} r ok each = go (screen r).interlaced refl
  where
    part : Bool → List A
    part f = run (each f) 0 (pixels_seen r f)

    go : (x : Bool) → (screen r).interlaced ≡ x → length (in_fields r part) ≡ frame_pixels (screen r)
    go false n = rw (in_fields_one r part n, run_length (each false) 0 (pixels_seen r false)) (ap (λ (k : ℕ). 4 * k) (plain_visible r.control (in_field false (screen r)) (accepted_in (screen r) false ok) n))
    go true n = rw (in_fields_two r part n, length-append, run_length (each false) 0 (pixels_seen r false), run_length (each true) 0 (pixels_seen r true)) (omega (arith, fields_visible r.control (screen r) ok n))

pub frame_ticks_some : (r : Registers) → Accepted r.control (screen r) → 0 < frame_ticks (screen r)
frame_ticks_some r ok = go (screen r).interlaced refl
  where
    go : (x : Bool) → (screen r).interlaced ≡ x → 0 < frame_ticks (screen r)
    go false n = rw (ticks_one r n) (ticks_some r.control (screen r) ok)
    go true n = rw (ticks_two r n) (omega (arith, ticks_some r.control (screen r) ok))

module _ (r : Registers) (m : List ℕ) (g : Generator) (d : Ready r m g) where
  okay : Accepted r.control (screen r)
  okay = d.sound.accepted d.runs

  abbrev T : ℕ
  T = field_ticks (screen r)

  first_of : FieldOf r false
  first_of e = absurd (true≢false (sym e))

  pub ready_one : FieldReady r m false g
  ready_one = record { sound = d.sound; runs = d.runs; start = d.start; transfers = d.transfers; unblanked = d.unblanked; room = λ i l. d.room false i first_of l; unrolled = λ j l. d.unrolled false j first_of l }

  frame : Whole r m g
  frame = whole r m g d.sound d.runs d.start

  abbrev B : Generator
  B = after r m g T

  module _ (n : (screen r).interlaced ≡ true) where
    pub ready_two : FieldReady r m true B
    ready_two =
        record {
          sound = between_sound r m g d.sound d.runs d.start (unrefused_here r m false g ready_one) n;
          runs = d.runs;
          start = between_start r m g d.sound d.runs d.start (unrefused_here r m false g ready_one) n;
          transfers = d.transfers;
          unblanked = d.unblanked;
          room = λ i l. d.room true i (λ e. n) l;
          unrolled = λ j l. d.unrolled true j (λ e. n) l;
        }

  -- a tick of the frame is one of the first field or, interlaced, of the second
  by_field_ticks : (P : Generator → Type 0) → ((k : ℕ) → k < T → P (after r m g k)) → ((screen r).interlaced ≡ true → (k : ℕ) → k < T → P (after r m B k)) → (k : ℕ) → k < frame_ticks (screen r) → P (after r m g k)
  by_field_ticks P one two k l = go (screen r).interlaced refl
    where
      go : (x : Bool) → (screen r).interlaced ≡ x → P (after r m g k)
      go false n = one k (rw (ticks_one r n) at l)
      go true n = ⊎_elim (one k) (λ q. let e : T + (k - T) ≡ k = omega arith in subst (λ (i : ℕ). P (after r m g i)) e (rw (after_add r m g T (k - T)) (two n (k - T) (omega (arith, ticks_two r n, l))))) (below k T)

  answers : (k : ℕ) → k < frame_ticks (screen r) → (answer r m g k).refusal ≡ 0
  answers = by_field_ticks (λ x. (tick_of r m x).refusal ≡ 0) (answered r m false g ready_one) (λ n. answered r m true B (ready_two n))

  -- the start comes back in neither field: in the second one it is not the first's
  not_second : (screen r).interlaced ≡ true → (k : ℕ) → k < T → AtStart (after r m B k) → ⊥
  not_second n k l b = true≢false (sym (field_only r m true B (ready_two n) k l b).1)

  not_early : (k : ℕ) → 0 < k → k < frame_ticks (screen r) → AtStart (after r m g k) → ⊥
  not_early k p l = go (screen r).interlaced refl
    where
      first : k < T → AtStart (after r m g k) → ⊥
      first q b = omega (arith, (field_only r m false g ready_one k q b).0)

      go : (x : Bool) → (screen r).interlaced ≡ x → AtStart (after r m g k) → ⊥
      go false n = first (rw (ticks_one r n) at l)
      go true n = ⊎_elim first (λ q b. let e : T + (k - T) ≡ k = omega arith in not_second n (k - T) (omega (arith, ticks_two r n, l)) (rw (after_add r m g T (k - T)) at (subst (λ (i : ℕ). AtStart (after r m g i)) (sym e) b))) (below k T)

  -- a tick shows exactly if it is visible
  pub shown_all : (k : ℕ) → k < frame_ticks (screen r) → is_shown r m g k ≡ visible_at r (after r m g k)
  shown_all = by_field_ticks (λ x. not (tick_of r m x).signals.blank ≡ visible_at r x) (shown_visible r m false g ready_one) (λ n. shown_visible r m true B (ready_two n))

  unrefused_picture : picture_refuses20 r m ≡ false
  unrefused_picture = rw (unrefused_here r m false g ready_one) (go (screen r).interlaced refl)
    where
      go : (x : Bool) → (screen r).interlaced ≡ x → (x && field_refuses20 r m true) ≡ false
      go false n = refl
      go true n = unrefused_here r m true B (ready_two n)

  visible_all : count (is_shown r m g) (frame_ticks (screen r)) ≡ frame_visible (screen r)
  visible_all = go (screen r).interlaced refl
    where
      go : (x : Bool) → (screen r).interlaced ≡ x → count (is_shown r m g) (frame_ticks (screen r)) ≡ frame_visible (screen r)
      go false n = rw (ticks_one r n) (visible_ticks r m false g ready_one ∙ plain_visible r.control (in_field false (screen r)) (accepted_in (screen r) false okay) n)
      go true n = rw (ticks_two r n) (count_on r m g T T (λ x. not (tick_of r m x).signals.blank) ∙ rw (visible_ticks r m false g ready_one, visible_ticks r m true B (ready_two n)) (fields_visible r.control (screen r) okay n))

  addresses_all : addresses_answered r m g (frame_ticks (screen r)) ≡ in_fields r (addresses_of r)
  addresses_all = by_fields r m g (λ x. (tick_of r m x).signals.transfer) (λ x. (tick_of r m x).signals.address ∷ []) (addresses_of r) (field_addresses r m false g ready_one) (λ n. field_addresses r m true B (ready_two n))

  addresses_many : length (in_fields r (addresses_of r)) ≡ frame_transfers (screen r)
  addresses_many = rw (length-append, run_length (λ j. first_address r false + j * increment r.control) 0 (transfers_seen r false)) (go (screen r).interlaced)
    where
      go : (x : Bool) → transfers_seen r false + length (cond x (addresses_of r true) []) ≡ transfers_seen r false + cond x (transfers_seen r true) 0
      go true = rw (run_length (λ j. first_address r true + j * increment r.control) 0 (transfers_seen r true))
      go false = refl

  -- DEMAND 3
  pub demand_3 : Demand3 r m g
  demand_3 =
      record {
        unrefused = answers;
        some = frame_ticks_some r okay;
        returns = rw (frame.end unrefused_picture) (frame_end_start r m);
        not_before = not_early;
        visible = visible_all;
        transfers = counted r m g (frame_ticks (screen r)) ∙ ap length addresses_all ∙ addresses_many;
        addresses = addresses_all;
        places =
            by_fields r m g (λ x. not (tick_of r m x).signals.blank) (λ x. run (place r (held_address r x) x.seen.0) 0 4) (places_of r)
            (field_places r m false g ready_one) (λ n. field_places r m true B (ready_two n));
        dots =
            by_fields r m g (visible_at r) (λ x. (tick_of r m x).signals.dots) (λ f. run (field_dot r f m) 0 (pixels_seen r f))
            (field_drawn r m false g ready_one) (λ n. field_drawn r m true B (ready_two n));
        end = frame.end unrefused_picture;
      }
