-- What the code puts out is what the rules say. Assumes nothing.
use Prim.Native.Nat.{ℕ, zero, suc, ◌+◌, ◌*◌, ◌/◌, ◌%◌, ◌^◌, ◌≤◌, ◌<◌}
use mathlib.Core.Bool.{Bool, true, false, not, cond, ◌&&◌}
use mathlib.Core.List.{List, [], ◌∷◌}
use mathlib.Core.Path.{◌≡◌, refl, sym, ap, ◌∙◌}
use native.Mathlib.Nat.{zero-add}
use native.Mathlib.Omega.{arith}
use Rattle.base.specs.Count.{count, some, run}
use Rattle.control.specs.Control.{running, forced_blank, transferring, cursor_on, pixel_bits}
use Rattle.units.specs.declared.Screen.{Screen}
use Rattle.registers.specs.declared.Registers.{Registers}
use Rattle.signals.specs.Signals.{black, colours_of, silent}
use Rattle.signals.specs.declared.Dot.{Dot}
use Rattle.signals.specs.declared.Signals.{Signals}
use Rattle.memory.specs.Memory.{ends_beyond}
use Rattle.pixel.specs.Dot.{dot_below, dot_at}
use Rattle.pixel.proofs.Laws.{dot_uncovered}
use Rattle.cursor.specs.Cursor.{near}
use Rattle.cursor.proofs.Clear.{near_none}
use Rattle.registers.specs.File.{numbers_of}
use Rattle.pixel.specs.declared.Spot.{Spot}
use Rattle.pixel.specs.Sums.{cleared_at, summed_where}
use Rattle.pixel.specs.declared.Sums.{Sums}
use Rattle.memory.proofs.Laws.{ends_beyond_later}
use Rattle.generator.specs.Rows.{screen, field_at, visible_at, shows, held_address, place, asks}
use Rattle.generator.specs.Tick.{in_lines, dot_of, dots, refuses20, cleared, sums_after, seen_after, step_with, signals_with, signals, tick_refusal, tick_of}
use Rattle.generator.specs.Stand.{Runs, Stands}
use Rattle.generator.specs.declared.Generator.{Generator}
use Rattle.generator.specs.declared.stand.Stand.{Stand}
use Rattle.units.specs.Parameters.{half_ticks}
use Rattle.screen.proofs.limits.Laws.{narrow, accepted_in}
use Rattle.lines.proofs.Halves.{lines_above_most}
use Rattle.lines.specs.Lines.{visible, lines_above, opens, tick_number, visible_before, moment_of}
use Rattle.lines.specs.declared.Moment.{Moment}
use Rattle.generator.proofs.stand.Bounds.{lines_in}
use Rattle.generator.proofs.VisibleBefore.{column_by, line_by}
use Rattle.base.proofs.Bools.{both_hold, or_second}
use Rattle.base.proofs.Run.{run_same}

-- where a test that passes goes on passing, one of a run of numbers passes exactly where the last does
some_last : (test : ℕ → Bool) → ((k : ℕ) → test k ≡ true → test (suc k) ≡ true) → (n : ℕ) → some test (suc n) ≡ test n
unfolding some
some_last test on zero = refl
some_last test on (suc n) = rw (some_last test on n) (or_second (test n) (test (suc n)) (on n))

-- the four places of a tick are a run
pub place_run : (r : Registers) (a v k : ℕ) → place r a v k ≡ place r a v 0 + k
unfolding place
place_run r a v k = omega arith

-- what a tick's moment says of it
moment_opens : (r : Registers) (g : Generator) (t : Stand) → Stands r g t → t.moment.opens ≡ opens (field_at r g) g.half.0 g.at.0
unfolding moment_of
moment_opens r g t st = ap (λ (x : Moment). x.opens) st.moment_is

-- a tick that shows is visible
shown_visible : (r : Registers) (g : Generator) (t : Stand) → Stands r g t → t.shows ≡ true → visible_at r g ≡ true
unfolding shows
shown_visible r g t st on = (both_hold (visible_at r g) (not (forced_blank r.control)) (sym st.shows_is ∙ on)).0

module _ (r : Registers) (m : List ℕ) (g : Generator) (t : Stand) (st : Stands r g t) where
  place_at_lem : t.shows ≡ true → (k : ℕ) → place r (held_address r g) g.seen.0 k ≡ t.place + k
  place_at_lem s k = place_run r (held_address r g) g.seen.0 k ∙ rw (← (st.place_is (shown_visible r g t st s)))

  refuse_lit : t.shows ≡ true → (transferring r.control && ends_beyond (pixel_bits r.control) m (t.place + 3)) ≡ refuses20 r m g
  unfolding refuses20
  refuse_lit s =
      simp (← st.shows_is, s)
      (rw (← (place_at_lem s 3))
      (sym (rw (some_last (λ k. ends_beyond (pixel_bits r.control) m (place r (held_address r g) g.seen.0 k)) (λ k e. later k e) 3))))
    where
      later : (k : ℕ) → ends_beyond (pixel_bits r.control) m (place r (held_address r g) g.seen.0 k) ≡ true → ends_beyond (pixel_bits r.control) m (place r (held_address r g) g.seen.0 (suc k)) ≡ true
      later k e = ends_beyond_later (pixel_bits r.control) m _ _ (omega (arith, place_at_lem s k, place_at_lem s (suc k))) e

  pub refuse_by : (far on : Bool) → far ≡ ends_beyond (pixel_bits r.control) m (t.place + 3) → on ≡ transferring r.control → (t.shows && (on && far)) ≡ refuses20 r m g
  unfolding refuses20
  refuse_by far on ef eo = go t.shows refl
    where
      go : (b : Bool) → t.shows ≡ b → (b && (on && far)) ≡ refuses20 r m g
      go true s = rw (ef, eo) (refuse_lit s)
      go false s = simp (← st.shows_is, s)

  -- a tick that shows and is not refused reads no place beyond the memory
  pub held_by : t.shows ≡ true → refuses20 r m g ≡ false → (transferring r.control && ends_beyond (pixel_bits r.control) m (t.place + 3)) ≡ false
  held_by s e = refuse_lit s ∙ e

  -- the four pixels of a tick whose first one is spotted: under the cursor, and away from it
  pub dots_lit : t.shows ≡ true → (four : List Dot) → four ≡ run (dot_of r g.second m (held_address r g) g.seen.0) 0 4 → four ≡ dots r m g
  unfolding dots
  dots_lit s four e = e ∙ simp (← st.shows_is, s)

  module _ (on : t.shows ≡ true) (at : Spot) (spot : at ≡ record { place = t.place; x = 4 * (in_lines r g.second g.seen.0 % t.screen.display.0); y = in_lines r g.second g.seen.0 / t.screen.display.0 }) where
    dot_by : (k : ℕ) → dot_at r r.position m (at.place + k) (at.x + k) at.y ≡ dot_of r g.second m (held_address r g) g.seen.0 k
    unfolding dot_of
    dot_by k = rw (spot, place_at_lem on k, st.screen_is)

    pub covered_by : run (λ k. dot_at r r.position m (at.place + k) (at.x + k) at.y) 0 4 ≡ run (dot_of r g.second m (held_address r g) g.seen.0) 0 4
    covered_by = run_same _ _ 0 0 4 (λ k l. dot_by (0 + k))

    pub uncovered_by : (cursor_on r.control && near r.position at.x at.y) ≡ false →
        run (λ k. dot_below (numbers_of r) r.palette m (t.place + k)) 0 4 ≡ run (dot_of r g.second m (held_address r g) g.seen.0) 0 4
    uncovered_by n = run_same _ _ 0 0 4 (λ k l.
        let e : t.place ≡ at.place = rw spot in
        rw (e, zero-add k) (dot_uncovered r r.position m (at.place + k) (at.x + k) at.y (near_none r.control r.position at.x at.y n r.store k l) ∙ dot_by k))

  pub dots_dark : t.shows ≡ false → black ∷ black ∷ black ∷ black ∷ [] ≡ dots r m g
  unfolding dots run
  dots_dark s = simp (← st.shows_is, s)

  pub sums_by : (four : List Dot) → four ≡ dots r m g → (colours : List ℕ) → colours ≡ colours_of four → (out : Sums) → out ≡ summed_where t.shows (cleared_at t.moment.opens g.sums) colours → out ≡ sums_after r m g
  unfolding sums_after cleared
  sums_by four e colours ec out eo = eo ∙ rw (ec, e, st.shows_is, moment_opens r g t st)

-- what is asked from a tick on: a visible one asks anew
asked_by : (r : Registers) (g : Generator) (t : Stand) → Stands r g t → cond t.moment.visible t.asking g.asked ≡ cond t.moment.visible (asks r.control (screen r) g.seen.0) g.asked
unfolding visible_at moment_of
asked_by r g t st = go t.moment.visible refl
  where
    go : (b : Bool) → t.moment.visible ≡ b → cond b t.asking g.asked ≡ cond b (asks r.control (screen r) g.seen.0) g.asked
    go true v = st.asking_is (sym (ap (λ (x : Moment). x.visible) st.moment_is) ∙ v)
    go false v = refl

-- the generator after the tick, from what its parts answer
pub next_by : (r : Registers) (g : Generator) (t : Stand) → Stands r g t → (sums : Sums) (asked : Bool) (more seen : ℕ) → more ≡ cond t.moment.visible (g.seen.0 + 1) g.seen.0 →
    seen ≡ cond t.moment.closes 0 more → asked ≡ cond t.moment.visible t.asking g.asked →
    ◌≡◌ {A = Generator} (record { second = t.moment.second; half = record { 0 = t.moment.half }; at = record { 0 = t.moment.at }; seen = record { 0 = seen }; held = t.held; asked = asked; sums = sums }) (step_with r g sums)
unfolding step_with seen_after visible_at moment_of
next_by r g t st sums asked more seen em es ek = rw (es, ek, em, asked_by r g t st, st.moment_is, st.held_is)

-- every signal, from what its parts answer
pub signals_by : (r : Registers) (g : Generator) (t : Stand) → Stands r g t → (four : List Dot) (on : Bool) (address : ℕ) → on ≡ transferring r.control → address ≡ cond (on && t.transfer) t.held 0 →
    record { sync = not t.moment.low; vsync = not t.moment.vsyncing; inactive = not t.moment.vdisplaying; blank = not t.shows; request = t.request; transfer = on && t.transfer; address = address; dots = four } ≡ signals_with r g four
unfolding signals_with moment_of
signals_by r g t st four on address eo ea = rw (ea, eo, st.moment_is, st.shows_is, st.request_is, st.transfer_is, st.held_is)

-- the columns and lines of a placed generator's next tick
module _ (r : Registers) (g : Generator) (k : Runs r g) (s : Screen) (e : s ≡ field_at r g) where
  pub display_some : 0 < s.display.0
  display_some = rw e k.accepted.bounded.display.low

  pub display_most : s.display.0 ≤ 0xFFFFFF
  display_most = rw e (omega (arith, k.accepted.bounded.display.high))

-- the spot that a visible tick's moment names, in terms of the ticks counted
module _ (r : Registers) (g : Generator) (k : Runs r g) (t : Stand) (st : Stands r g t) where
  moment_half : t.moment.line ≡ lines_above (field_at r g) g.half.0
  unfolding moment_of
  moment_half = ap (λ (x : Moment). x.line) st.moment_is

  -- a line is one of the field's
  pub line_in : t.moment.line < 2 ^ 32
  line_in = omega (arith, moment_half, lines_above_most (field_at r g) g.half.0, k.placed.half_in, k.accepted.bounded)

  module _ (on : t.shows ≡ true) where
    pub spot_column : t.moment.column ≡ in_lines r g.second g.seen.0 % t.screen.display.0
    unfolding moment_of visible_at
    spot_column =
        ap (λ (x : Moment). x.column) st.moment_is
        ∙ rw (st.screen_is, k.placed.seen_is) (column_by r.control (field_at r g) (accepted_in (screen r) g.second k.accepted) g.half.0 g.at.0 k.placed.at_in (shown_visible r g t st on))

    pub spot_line : t.moment.line ≡ in_lines r g.second g.seen.0 / t.screen.display.0
    unfolding moment_of visible_at
    spot_line =
        ap (λ (x : Moment). x.line) st.moment_is
        ∙ rw (st.screen_is, k.placed.seen_is) (line_by r.control (field_at r g) (accepted_in (screen r) g.second k.accepted) g.half.0 g.at.0 k.placed.at_in (shown_visible r g t st on))

    pub spot_by : (at : Spot) → at ≡ record { place = t.place; x = 4 * t.moment.column; y = t.moment.line } →
        at ≡ record { place = t.place; x = 4 * (in_lines r g.second g.seen.0 % t.screen.display.0); y = in_lines r g.second g.seen.0 / t.screen.display.0 }
    spot_by at e = e ∙ rw (spot_column, spot_line)

one_more : (b : Bool) (c n : ℕ) → c ≤ n → cond b (c + 1) c ≤ suc n
one_more true c n p = omega arith
one_more false c n p = omega arith

count_most : (test : ℕ → Bool) (n : ℕ) → count test n ≤ n
unfolding count
count_most test zero = omega arith
count_most test (suc n) = one_more (test n) (count test n) n (count_most test n)

-- the visible ticks counted fit with room to spare
pub seen_in : (r : Registers) (g : Generator) → Runs r g → g.seen.0 < 2 ^ 60
unfolding visible_before
seen_in r g k =
    let s = field_at r g in
    let b = narrow (screen r) k.accepted.bounded in
    rw k.placed.seen_is
    (omega (arith, count_most (λ n. visible s (n / half_ticks s) (n % half_ticks s)) (tick_number s g.half.0 g.at.0), lines_in g.half.0 (half_ticks s) (omega (arith, k.placed.half_in, b)) (omega (arith, b.linetime.high)), k.placed.at_in, b.linetime.high))

module _ (r : Registers) (g : Generator) (m : List ℕ) where
  pub tick_23 : (q : Signals) → q ≡ silent → running r.control ≡ false → record { refusal = 23; signals = q; next = g } ≡ tick_of r m g
  unfolding tick_of tick_refusal
  tick_23 q e n = simp (e, n)

  module _ (on : running r.control ≡ true) where
    pub tick_20 : (q : Signals) → q ≡ silent → refuses20 r m g ≡ true → record { refusal = 20; signals = q; next = g } ≡ tick_of r m g
    unfolding tick_of tick_refusal
    tick_20 q e n = simp (e, on, n)

    pub tick_0 : refuses20 r m g ≡ false → (q : Signals) (n : Generator) (sums : Sums) → q ≡ signals r m g → sums ≡ sums_after r m g → n ≡ step_with r g sums → record { refusal = 0; signals = q; next = n } ≡ tick_of r m g
    unfolding tick_of tick_refusal
    tick_0 z q n sums eq es en = simp (on, z) (rw (eq, en, es))
