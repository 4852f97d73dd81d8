-- The totals are counts: the fourteen writes lay a sheet's values, the control write starts the screen, and demand 3 counts its frame.
-- Assumes nothing.
use Prim.Native.Nat.{ℕ, suc, ◌+◌, ◌-◌, ◌/◌, ◌≤◌, ◌<◌}
use mathlib.Core.Bool.{Bool, true, false, xor, true≢false}
use mathlib.Core.List.{List, [], ◌∷◌, ◌++◌, map, append-nil}
use mathlib.Core.Path.{◌≡◌, refl, sym, ap, ◌∙◌}
use native.Mathlib.Nat.{add-suc, mul-le-mul, div-le_self}
use native.Mathlib.Omega.{arith}
use borrow.Author.Tests.{ltb-false, eq-eqb, eqb-true, le-leb}
use lib.Dec.{eqb, ltb}
use lib.ListN.{length, set, replicate}
use lib.Seq.{sets, sets-eq}
use Rattle.base.specs.Count.{run}
use Rattle.base.proofs.Bools.{neither_holds}
use Rattle.control.specs.Control.{running, increment, row_divisor}
use Rattle.units.specs.Parameters.{screen_of, in_field, displayed_lines, row_length}
use Rattle.units.specs.declared.Screen.{Screen}
use Rattle.screen.specs.Range.{most}
use Rattle.screen.specs.Limits.{later_limit, limit_of, Bounded, Accepted}
use Rattle.screen.specs.Totals.{frame_ticks, frame_visible, field_transfers, frame_transfers, frame_pixels, frame_totals, totals_of}
use Rattle.screen.proofs.limits.Laws.{accepted, accepted_in, unrefused}
use Rattle.lines.specs.Lines.{field_visible}
use Rattle.generator.proofs.VisibleBefore.{plain_visible}
use Rattle.frame.specs.Frame.{in_fields, pixels_seen}
use Rattle.frame.proofs.Gather.{in_fields_same}
use Rattle.frame.specs.Demand.{first_place, field_dot}
use Rattle.frame.proofs.Demand.{frame_pixels_lem}
use Rattle.frame.proofs.Plain.{plain_transfers, plain_unrolled, plain_room}
use Rattle.screen.proofs.totals.Laws.{totals_counted}
use Rattle.sheet.specs.Encoding.{over, Bytes}
use Rattle.sheet.specs.Reader.{read_sheet}
use Rattle.sheet.proofs.Laws.{accepted_encoding}
use Rattle.registers.specs.Map.{place_of}
use Rattle.registers.specs.File.{zeros, store_in}
use Rattle.registers.specs.declared.map.Place.TheVariants.{Parameter, Control}
use Rattle.generator.specs.Rows.{screen}
use Rattle.generator.specs.Counters.{fresh}
use Rattle.machine.specs.Access.{start_limit, write_refusal}
use Rattle.machine.specs.Calls.{write, writes_from}
use Rattle.machine.specs.Rules.{beginning, stored, written}
use Rattle.machine.specs.declared.Machine.{Machine}
use Rattle.machine.proofs.access.Passed as passed
use Rattle.demands.specs.Asked.{Asked, of, after_asked, after_every, TakenEvery}
use Rattle.demands.specs.Demand3.{dots_shown, at_field, ticks_in, Begins, Demand3}
use Rattle.demands.specs.Counted.{eight_bits, eight_bits_running, Counted, TotalsCounted, TotalsOfFrames, TotalsByDepth}
use Rattle.demands.proofs.Reached.{reached_sound}
use Rattle.demands.proofs.Third.{demand_3_reached}

-- the totals call looks at the depth and the format alone
pub totals_by_depth : TotalsByDepth
unfolding totals_of limit_of later_limit
totals_by_depth control other params e f = rw (e, f)

-- the colours of a frame, pixel by pixel
colours_dots : (m : Machine) (memory : List ℕ) → Demand3 m memory → dots_shown m memory (frame_ticks (screen m.regs)) ≡ in_fields m.regs (λ second. run (field_dot m.regs second memory) 0 (pixels_seen m.regs second))
colours_dots m memory d =
    d.coloured_frame
    ∙ in_fields_same m.regs (λ second. dots_shown (at_field m memory second) memory (ticks_in m)) (λ second. run (field_dot m.regs second memory) 0 (pixels_seen m.regs second)) (d.coloured false (λ e. absurd (true≢false (sym e)))) (λ n. d.coloured true (λ e. n))

-- of every frame that is ready to start it answers the counts
counts_of : (m : Machine) (memory : List ℕ) → Accepted m.regs.control (screen m.regs) → Begins m memory → Demand3 m memory → Counted m memory (frame_totals (screen m.regs))
counts_of m memory ok b d =
    record {
      begins = b;
      some = d.some;
      unrefused = d.unrefused;
      returns = d.returns;
      not_before = d.not_before;
      visible = d.visible;
      transferred = d.transferred;
      pixels = ap length (colours_dots m memory d) ∙ frame_pixels_lem m.regs ok (λ f. field_dot m.regs f memory);
    }

pub totals_of_frames : TotalsOfFrames
totals_of_frames calls m reached memory b =
    let ok = (reached_sound calls m reached).accepted b.running_now in
    rw (← (totals_counted m.regs.control m.regs.params (unrefused m.regs.control (screen m.regs) ok)))
    (counts_of m memory ok b (demand_3_reached calls m reached memory b))

-- ---- calls after calls

every_append : (m : Machine) (first later : List Asked) → after_every m (first ++ later) ≡ after_every (after_every m first) later
every_append m [] later = refl
every_append m (call ∷ rest) later = every_append (after_asked m call) rest later

taken_append : (m : Machine) (first later : List Asked) → TakenEvery m first → TakenEvery (after_every m first) later → TakenEvery m (first ++ later)
taken_append m [] later t u = u
taken_append m (call ∷ rest) later t u = (t.0, taken_append (after_asked m call) rest later t.1 u)

-- ---- values written from #021 on

-- a machine with other parameters
abbrev with_params : Machine → List ℕ → Machine
with_params m params =
    record {
      regs =
          record {
            params = params;
            mask = m.regs.mask;
            control = m.regs.control;
            top = m.regs.top;
            colours = m.regs.colours;
            position = m.regs.position;
            palette = m.regs.palette;
            store = m.regs.store;
          };
      generator = m.generator;
    }

parameter_place : (k : ℕ) → k < 14 → place_of (0x021 + k) ≡ Parameter k
unfolding place_of
parameter_place k l =
    let e : 0x021 + k - 0x021 ≡ k = omega arith in
    simp (le-leb 0x021 (0x021 + k) (omega arith), le-leb (0x021 + k) 0x02E (omega arith), e)

module _ (m : Machine) (stopped : running m.regs.control ≡ false) (k v : ℕ) (l : k < 14) (small : v ≤ 65535) where
  parameter_taken : (written m (0x021 + k) v).refusal ≡ 0
  unfolding written start_limit
  parameter_taken =
      rw (parameter_place k l)
      (passed.accepted m.regs (Parameter k) v (record { opened = refl; narrow = omega arith; idle = stopped; known = refl; limits = refl }))

  parameter_stored : (written m (0x021 + k) v).machine ≡ with_params m (set m.regs.params k v)
  unfolding written stored store_in
  parameter_stored = simp (eq-eqb _ 0 parameter_taken) (rw (parameter_place k l))

laid : (values : List ℕ) (m : Machine) (k : ℕ) → running m.regs.control ≡ false → k + length values ≤ 14 → over values ≡ false →
    TakenEvery m (map of (writes_from (0x021 + k) values)) × (after_every m (map of (writes_from (0x021 + k) values)) ≡ with_params m (sets m.regs.params k values))
unfolding over
laid [] m k stopped l small = (tt, refl)
laid (v ∷ rest) m k stopped l small =
    let both = neither_holds (ltb 65535 v) (over rest) small in
    let narrow = ltb-false 65535 v both.0 in
    let e = parameter_stored m stopped k v (omega arith) narrow in
    let later = laid rest (with_params m (set m.regs.params k v)) (suc k) stopped (omega arith) both.1 in
    let on = rw add-suc at later in
    ((parameter_taken m stopped k v (omega arith) narrow, rw e on.0), ap (λ (n : Machine). after_every n (map of (writes_from (suc (0x021 + k)) rest))) e ∙ on.1)

-- ---- the control write

-- the registers with a sheet's values, and those started
abbrev laid_out : List ℕ → Machine
laid_out values = with_params beginning values

abbrev running8 : List ℕ → Machine
running8 values = record { regs = store_in (laid_out values).regs Control eight_bits_running; generator = fresh }

module _ (values : List ℕ) (fourteen : length values ≡ 14) (small : over values ≡ false) where
  all_laid : sets (replicate 14 0) 0 values ≡ values
  all_laid = sets-eq values (replicate 14 0) 0 (omega arith) ∙ rw fourteen (append-nil values)

  writes : TakenEvery beginning (map of (writes_from 0x021 values)) × (after_every beginning (map of (writes_from 0x021 values)) ≡ laid_out values)
  unfolding zeros
  writes = let both = laid values beginning 0 refl (omega arith) small in (both.0, both.1 ∙ ap (with_params beginning) all_laid)

  -- it is not interlaced
  format : (screen_of values false).interlaced ≡ false
  unfolding screen_of
  format = refl

  -- the limits look at the depth alone, so bit 0 makes no difference
  limits_same : limit_of eight_bits_running (screen_of values false) ≡ limit_of eight_bits (screen_of values false)
  unfolding limit_of later_limit
  limits_same = refl

  start_refusal : (written (laid_out values) 0x060 eight_bits_running).refusal ≡ limit_of eight_bits (screen_of values false)
  unfolding written place_of write_refusal start_limit zeros xor
  start_refusal = limits_same

  totals_refusal : (totals_of eight_bits values).refusal ≡ limit_of eight_bits (screen_of values false)
  unfolding totals_of
  totals_refusal = go (eqb (limit_of eight_bits (screen_of values false)) 0) refl
    where
      go : (t : Bool) → eqb (limit_of eight_bits (screen_of values false)) 0 ≡ t → (totals_of eight_bits values).refusal ≡ limit_of eight_bits (screen_of values false)
      go true e = simp e (sym (eqb-true _ 0 e))
      go false e = simp e

  start_stored : (written (laid_out values) 0x060 eight_bits_running).refusal ≡ 0 → (written (laid_out values) 0x060 eight_bits_running).machine ≡ running8 values
  unfolding written place_of stored zeros
  start_stored e = simp (eq-eqb _ 0 e)

  -- ---- what is started begins a frame

  module _ (ok : limit_of eight_bits (screen_of values false) ≡ 0) where
    abbrev S : Screen
    S = screen_of values false

    bound : Bounded most S
    bound = (accepted eight_bits S ok).bounded

    okay : Accepted eight_bits_running (screen (running8 values).regs)
    unfolding store_in
    okay = accepted eight_bits_running S (limits_same ∙ ok)

    one_field_transfers : frame_transfers S ≡ field_transfers (in_field false S)
    unfolding store_in
    one_field_transfers = sym (plain_transfers (running8 values).regs okay format)

    whole_field : field_visible (in_field false S) ≡ frame_visible S
    whole_field = plain_visible eight_bits (in_field false S) (accepted_in S false (accepted eight_bits S ok)) one_field
      where
        one_field : S.interlaced ≡ false
        one_field = format

    few : frame_transfers S ≤ 0xFFFFFF
    few =
        let lines : displayed_lines S ≡ S.vdisplay.0 / 2 = simp format in
        let all = mul-le-mul {n₁ = S.display.0} {m₁ = displayed_lines S} {n₂ = 4095} {m₂ = 2047} (omega (arith, bound.display)) (omega (arith, bound.vdisplay, lines)) in
        omega (arith, all, whole_field, one_field_transfers, div-le_self (field_visible (in_field false S) + (row_length S - 1)) (row_length S), bound.meminit, bound.transferdelay)

    -- its first pixel is the memory's first
    first_place_lem : first_place (running8 values).regs ≡ 0
    unfolding store_in zeros row_divisor increment
    first_place_lem = omega arith

    begins : (memory : List ℕ) → frame_pixels S ≤ length memory → Begins (running8 values) memory
    unfolding store_in zeros increment
    begins memory enough =
        record {
          running_now = refl;
          at_start = record { field = refl; half = refl; at = refl };
          transferring_now = refl;
          unblanked = refl;
          room = plain_room (running8 values).regs okay format memory (omega (arith, enough, first_place_lem));
          unrolled = plain_unrolled (running8 values).regs okay format (omega (arith, few));
        }

    counts : (memory : List ℕ) → frame_pixels S ≤ length memory → Demand3 (running8 values) memory → Counted (running8 values) memory (frame_totals S)
    unfolding store_in
    counts memory enough d = counts_of (running8 values) memory okay (begins memory enough) d

    abbrev calls : List Asked
    calls = map of (writes_from 0x021 values) ++ (of (write 0x060 eight_bits_running) ∷ [])

    free : (written (laid_out values) 0x060 eight_bits_running).refusal ≡ 0
    free = start_refusal ∙ ok

    reached : after_every beginning calls ≡ running8 values
    reached =
        every_append beginning (map of (writes_from 0x021 values)) (of (write 0x060 eight_bits_running) ∷ [])
        ∙ ap (λ (m : Machine). (written m 0x060 eight_bits_running).machine) writes.1
        ∙ start_stored free

    all_taken : TakenEvery beginning calls
    all_taken = taken_append beginning (map of (writes_from 0x021 values)) (of (write 0x060 eight_bits_running) ∷ []) writes.0 (rw writes.1 (free, tt))

    all_counted : (memory : List ℕ) → (totals_of eight_bits values).pixels.0 ≤ length memory → Counted (after_every beginning calls) memory (totals_of eight_bits values)
    all_counted memory enough =
        let same = totals_counted eight_bits values ok in
        let room = rw (← same) at enough in
        rw (← same, reached) (counts memory room (demand_3_reached calls (running8 values) (sym reached) memory (begins memory room)))

-- THE TOTALS ARE COUNTS
pub totals_counts : (sheet : List ℕ) → Bytes sheet → (read_sheet sheet).refusal ≡ 0 → TotalsCounted sheet
totals_counts sheet small good =
    let values = (read_sheet sheet).values in
    let whole = accepted_encoding sheet small good in
    let w = writes values whole.fourteen whole.small in
    let number = totals_refusal values whole.fourteen whole.small in
    let start = start_refusal values whole.fourteen whole.small in
    record {
      taken = w.0;
      refused = rw w.1 (number ∙ sym start);
      started = λ e. all_taken values whole.fourteen whole.small (sym number ∙ e);
      counted = λ e. all_counted values whole.fourteen whole.small (sym number ∙ e);
    }
