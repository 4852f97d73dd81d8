-- DEMAND 3 holds of every machine that the calls give from the beginning. Assumes nothing.
use Prim.Native.Nat.{ℕ, zero, suc, ◌+◌, ◌*◌, ◌<◌}
use mathlib.Core.Bool.{Bool, true, false, not, true≢false}
use mathlib.Core.List.{List, [], ◌∷◌}
use mathlib.Core.Path.{◌≡◌, refl, sym, ap, subst, ◌∙◌}
use native.Mathlib.Nat.{add-zero, add-suc, zero-add}
use native.Mathlib.Omega.{arith}
use borrow.Author.Tests.{eq-eqb, lt-ltb}
use lib.ListN.{length}
use Rattle.base.specs.Count.{count, run}
use Rattle.base.proofs.Run.{run_length}
use Rattle.base.proofs.Some.{some_none}
use Rattle.control.specs.Control.{running, interlaced, increment}
use Rattle.units.specs.Parameters.{in_field, field_ticks, row_length}
use Rattle.screen.specs.Limits.{Accepted}
use Rattle.screen.specs.Totals.{frame_ticks, frame_visible, rounded_up, frame_transfers, frame_pixels}
use Rattle.screen.proofs.limits.Laws.{accepted_in}
use Rattle.signals.specs.Signals.{colours_of}
use Rattle.signals.specs.declared.Dot.{Dot}
use Rattle.signals.specs.declared.Signals.{Signals}
use Rattle.registers.specs.Map.{place_of}
use Rattle.registers.specs.declared.Registers.{Registers}
use Rattle.lines.specs.Lines.{period}
use Rattle.pixel.specs.Sums.{none, summed}
use Rattle.generator.specs.Rows.{screen, visible_at, held_address, place}
use Rattle.generator.specs.Tick.{tick_of, after}
use Rattle.generator.specs.Counters.{displaying}
use Rattle.generator.specs.declared.Generator.{Generator}
use Rattle.machine.specs.Rules.{beginning, read_refusal, answered, advanced}
use Rattle.machine.specs.Conditions.{SoundMachine}
use Rattle.machine.specs.declared.Machine.{Machine}
use Rattle.frame.specs.Frame.{AtField, AtStart, FieldOf, in_fields, drawn, refused_within, pixels_seen, frame_end}
use Rattle.frame.specs.Demand.{is_shown, is_transfer, addresses_answered, places_shown, first_address, transfers_seen, addresses_of, places_of, field_dot, Ready, Demand3 as FrameDemand}
use Rattle.frame.proofs.Gather.{after_add, gathered_same, count_like, ticks_one, ticks_two, in_fields_same}
use Rattle.frame.proofs.Demand.{FieldReady, demand_3, shown_visible, shown_all, counted, field_addresses, field_places, field_drawn, field_sums, ready_one, ready_two}
use Rattle.frame.proofs.Places.{format_is, place_next, place_rises, places_apart, place_plain}
use Rattle.frame.proofs.Plain.{plain_transfers}
use Rattle.generator.proofs.VisibleBefore.{plain_visible}
use Rattle.picture.specs.Picture.{picture_refusal, drawn_of, buffer_of}
use Rattle.picture.specs.Span.{bytes_of}
use Rattle.picture.specs.Machines.{ticked, pictured}
use Rattle.picture.proofs.Machines.{ticked_generator, pictured_ticks}
use Rattle.generator.proofs.Kept.{after_sound}
use Rattle.demands.specs.Asked.{Asked, after_every}
use Rattle.demands.proofs.Reached.{reached_sound}
use Rattle.demands.specs.Demand3.{answer, shows, transfers, addresses, dots_shown, places, ticks_before, at_field, Begins, Demand3}

-- what a machine answers tick by tick is what its generator's ticks answer
module _ (m : Machine) (memory : List ℕ) where
  abbrev r : Registers
  r = m.regs

  abbrev g : Generator
  g = m.generator

  refusal_is : (k : ℕ) → (answer m memory k).refusal ≡ (tick_of r memory (after r memory g k)).refusal
  unfolding advanced
  refusal_is k = rw (ticked_generator m memory k)

  signals_is : (k : ℕ) → (answer m memory k).signals ≡ (tick_of r memory (after r memory g k)).signals
  unfolding advanced
  signals_is k = rw (ticked_generator m memory k)

  generator_is : (k : ℕ) → (ticked m memory k).generator ≡ after r memory g k
  generator_is k = ap (λ (x : Machine). x.generator) (ticked_generator m memory k)

  shows_is : (k : ℕ) → shows m memory k ≡ is_shown r memory g k
  shows_is k = ap (λ (s : Signals). not s.blank) (signals_is k)

  transfers_is : (k : ℕ) → transfers m memory k ≡ is_transfer r memory g k
  transfers_is k = ap (λ (s : Signals). s.transfer) (signals_is k)

  addresses_is : (n : ℕ) → addresses m memory n ≡ addresses_answered r memory g n
  addresses_is n = gathered_same _ _ _ _ n (λ k l. transfers_is k) (λ k. ap (λ (s : Signals). s.address ∷ []) (signals_is k))

  places_is : (n : ℕ) → places m memory n ≡ places_shown r memory g n
  places_is n = gathered_same _ _ _ _ n (λ k l. shows_is k) (λ k. ap (λ (x : Generator). run (place r (held_address r x) x.seen.0) 0 4) (generator_is k))

  -- where what shows is what is visible, the colours of what is not blank are those of the visible ticks
  colours_is : (n : ℕ) → ((k : ℕ) → k < n → is_shown r memory g k ≡ visible_at r (after r memory g k)) → dots_shown m memory n ≡ drawn r memory g n
  colours_is n h = gathered_same _ _ _ _ n (λ k l. shows_is k ∙ h k l) (λ k. ap (λ (s : Signals). s.dots) (signals_is k))

-- the frame that begins with a machine
module _ (m : Machine) (memory : List ℕ) (z : SoundMachine m) (b : Begins m memory) where
  abbrev F : ℕ
  F = frame_ticks (screen m.regs)

  ready : Ready m.regs memory m.generator
  ready =
      record {
        sound = z;
        runs = b.running_now;
        start = b.at_start;
        transfers = b.transferring_now;
        unblanked = b.unblanked;
        room = b.room;
        unrolled = b.unrolled;
      }

  abbrev d : FrameDemand m.regs memory m.generator
  d = demand_3 m.regs memory m.generator ready

  frame_colours : dots_shown m memory F ≡ drawn m.regs memory m.generator F
  frame_colours = colours_is m memory F (shown_all m.regs memory m.generator ready)

  unrefused_frame : refused_within m.regs memory m.generator F ≡ false
  unfolding refused_within
  unrefused_frame = some_none _ F (λ k l. rw (d.unrefused k l))

  module _ (buffer : List ℕ) (size : length buffer ≡ 3 * frame_pixels (screen m.regs)) where
    free : picture_refusal m.regs memory m.generator (length buffer) ≡ 0
    unfolding picture_refusal
    free = simp (b.running_now, b.at_start.field, b.at_start.half, b.at_start.at, eq-eqb (length buffer) (3 * frame_pixels (screen m.regs)) size, unrefused_frame)

    picture_free : (pictured m memory (length buffer)).refusal ≡ 0
    unfolding pictured drawn_of
    picture_free = free

    picture_bytes : buffer_of m.regs memory m.generator buffer ≡ bytes_of (colours_of (dots_shown m memory F))
    unfolding buffer_of
    picture_bytes = simp (eq-eqb (picture_refusal m.regs memory m.generator (length buffer)) 0 free) (ap (λ (l : List Dot). bytes_of (colours_of l)) (sym frame_colours))

    picture_machine : (pictured m memory (length buffer)).machine ≡ ticked m memory F
    picture_machine = pictured_ticks m memory (length buffer) picture_free

  frame_end_lem : ticked m memory F ≡ record { regs = m.regs; generator = frame_end m.regs memory }
  frame_end_lem = ticked_generator m memory F ∙ ap (λ (x : Generator). record { regs = m.regs; generator = x }) d.end

  abbrev T : ℕ
  T = field_ticks (screen m.regs)

  -- each of its fields, as the machine stands before it
  record OneField (second : Bool) : Type 0 where
    generator : Generator
    machine_is : ticked m memory (ticks_before m second) ≡ record { regs = m.regs; generator = generator }
    field_ready : FieldReady m.regs memory second generator
    end_is : ticked m memory (ticks_before m second + T) ≡ record { regs = m.regs; generator = after m.regs memory generator T }

  one_field : (second : Bool) → FieldOf m.regs second → OneField second
  unfolding ticked
  one_field false of =
      record {
        generator = m.generator;
        machine_is = refl;
        field_ready = ready_one m.regs memory m.generator ready;
        end_is = rw zero-add (ticked_generator m memory T);
      }
  one_field true of =
      record {
        generator = after m.regs memory m.generator T;
        machine_is = ticked_generator m memory T;
        field_ready = ready_two m.regs memory m.generator ready (of refl);
        end_is = ticked_generator m memory (T + T) ∙ ap (λ (x : Generator). record { regs = m.regs; generator = x }) (after_add m.regs memory m.generator T T);
      }

  module _ (second : Bool) (of : FieldOf m.regs second) where
    abbrev o : OneField second
    o = one_field second of

    abbrev n : Machine
    n = record { regs = m.regs; generator = o.generator }

    field_at : AtField second (at_field m memory second).generator
    field_at = rw o.machine_is o.field_ready.start

    field_transferred : count (transfers (at_field m memory second) memory) T ≡ transfers_seen m.regs second
    field_transferred =
        rw o.machine_is
        (count_like _ _ (transfers_is n memory) T
        ∙ counted m.regs memory o.generator T
        ∙ ap length (field_addresses m.regs memory second o.generator o.field_ready)
        ∙ run_length (λ j. first_address m.regs second + j * increment m.regs.control) 0 (transfers_seen m.regs second))

    field_addressed : addresses (at_field m memory second) memory T ≡ addresses_of m.regs second
    field_addressed = rw o.machine_is (addresses_is n memory T ∙ field_addresses m.regs memory second o.generator o.field_ready)

    field_placed : places (at_field m memory second) memory T ≡ places_of m.regs second
    field_placed = rw o.machine_is (places_is n memory T ∙ field_places m.regs memory second o.generator o.field_ready)

    field_drew : dots_shown (at_field m memory second) memory T ≡ drawn m.regs memory o.generator T
    field_drew = rw o.machine_is (colours_is n memory T (shown_visible m.regs memory second o.generator o.field_ready))

    field_coloured : dots_shown (at_field m memory second) memory T ≡ run (field_dot m.regs second memory) 0 (pixels_seen m.regs second)
    field_coloured = field_drew ∙ field_drawn m.regs memory second o.generator o.field_ready

    field_summed : (ticked m memory (ticks_before m second + T)).generator.sums ≡ summed none (colours_of (dots_shown (at_field m memory second) memory T))
    field_summed = ap (λ (x : Machine). x.generator.sums) o.end_is ∙ field_sums m.regs memory second o.generator o.field_ready ∙ ap (λ (l : List Dot). summed none (colours_of l)) (sym field_drew)

  first_of : FieldOf m.regs false
  first_of e = absurd (true≢false (sym e))

  fields_coloured : dots_shown m memory F ≡ in_fields m.regs (λ second. dots_shown (at_field m memory second) memory T)
  fields_coloured =
      frame_colours ∙ d.dots
      ∙ sym (in_fields_same m.regs (λ second. dots_shown (at_field m memory second) memory T) (λ second. run (field_dot m.regs second memory) 0 (pixels_seen m.regs second)) (field_coloured false first_of) (λ n. field_coloured true (λ e. n)))

-- another machine with the same registers ends its frame so too
same_end : (m n : Machine) (memory : List ℕ) → SoundMachine m → SoundMachine n → Begins m memory → Begins n memory → n.regs ≡ m.regs →
    ticked n memory (frame_ticks (screen m.regs)) ≡ ticked m memory (frame_ticks (screen m.regs))
same_end m n memory z y b c e =
    ap (ticked n memory) (sym (ap (λ (r : Registers). frame_ticks (screen r)) e))
    ∙ frame_end_lem n memory y c
    ∙ ap (λ (r : Registers). record { regs = r; generator = frame_end r memory }) e
    ∙ sym (frame_end_lem m memory z b)

-- ticks after ticks
ticked_more : (m : Machine) (memory : List ℕ) (a b : ℕ) → ticked m memory (a + b) ≡ ticked (ticked m memory a) memory b
unfolding ticked
ticked_more m memory a zero = rw add-zero
ticked_more m memory a (suc b) = rw add-suc (ap (λ (x : Machine). (advanced x memory).machine) (ticked_more m memory a b))

-- at a field's start the checksum words can be read: half line 0 lies in PreEqualise
module _ (m : Machine) (z : SoundMachine m) (on : running m.regs.control ≡ true) {f : Bool} (b : AtField f m.generator) where
  start_in_flyback : displaying m.regs m.generator ≡ false
  unfolding displaying period
  start_in_flyback =
      let some = (z.accepted on).bounded.vpreequalise.low in
      simp (on, lt-ltb m.generator.half.0 (screen m.regs).vpreequalise.0 (omega (arith, b.half, some)))

  start_answered : (k : ℕ) → k < 3 → (answered m (0x0C0 + k)).refusal ≡ 0
  unfolding answered place_of read_refusal
  start_answered zero l = simp start_in_flyback
  start_answered (suc zero) l = simp start_in_flyback
  start_answered (suc (suc zero)) l = simp start_in_flyback
  start_answered (suc (suc (suc k))) l = absurd (omega (arith, l))

-- what a frame leaves is ready for the next, which ends as it did
module _ (m : Machine) (memory : List ℕ) (z : SoundMachine m) (b : Begins m memory) where
  abbrev left : Machine
  left = record { regs = m.regs; generator = after m.regs memory m.generator (F m memory z b) }

  left_sound : SoundMachine left
  left_sound = after_sound m.regs memory m.generator z (F m memory z b)

  left_begins : Begins left memory
  left_begins =
      record {
        running_now = b.running_now;
        at_start = (d m memory z b).returns;
        transferring_now = b.transferring_now;
        unblanked = b.unblanked;
        room = b.room;
        unrolled = b.unrolled;
      }

  second : ticked m memory (F m memory z b + F m memory z b) ≡ ticked m memory (F m memory z b)
  second =
      ticked_more m memory (F m memory z b) (F m memory z b)
      ∙ ap (λ (x : Machine). ticked x memory (F m memory z b)) (ticked_generator m memory (F m memory z b))
      ∙ same_end m left memory z left_sound b left_begins refl

  -- after each of its fields
  after_answered : (n : ℕ) {f : Bool} → AtField f (after m.regs memory m.generator n) → (k : ℕ) → k < 3 → (answered (ticked m memory n) (0x0C0 + k)).refusal ≡ 0
  after_answered n at k l =
      ap (λ (x : Machine). (answered x (0x0C0 + k)).refusal) (ticked_generator m memory n)
      ∙ start_answered (record { regs = m.regs; generator = after m.regs memory m.generator n }) (after_sound m.regs memory m.generator z n) b.running_now at k l

  field_answered : (second : Bool) → FieldOf m.regs second → (k : ℕ) → k < 3 → (answered (ticked m memory (ticks_before m second + T m memory z b)) (0x0C0 + k)).refusal ≡ 0
  field_answered true of k l = after_answered (T m memory z b + T m memory z b) (subst (λ (n : ℕ). AtStart (after m.regs memory m.generator n)) (ticks_two m.regs (of refl)) (d m memory z b).returns) k l
  field_answered false of k l = rw zero-add (go (screen m.regs).interlaced refl)
    where
      go : (x : Bool) → (screen m.regs).interlaced ≡ x → (answered (ticked m memory (T m memory z b)) (0x0C0 + k)).refusal ≡ 0
      go true n = after_answered (T m memory z b) (ready_two m.regs memory m.generator (ready m memory z b) n).start k l
      go false n = after_answered (T m memory z b) (subst (λ (i : ℕ). AtStart (after m.regs memory m.generator i)) (ticks_one m.regs n) (d m memory z b).returns) k l

-- with one field transfers are the frame's visible ticks over the row length, rounded up
one_field_transfers : (r : Registers) → Accepted r.control (screen r) → (screen r).interlaced ≡ false → frame_transfers (screen r) ≡ rounded_up (frame_visible (screen r)) (row_length (screen r))
one_field_transfers r ok n =
    sym (plain_transfers r ok n) ∙ ap (λ (k : ℕ). rounded_up k (row_length (screen r))) (plain_visible r.control (in_field false (screen r)) (accepted_in (screen r) false ok) n)

-- DEMAND 3
pub demand_3_reached : (calls : List Asked) (m : Machine) → m ≡ after_every beginning calls → (memory : List ℕ) → Begins m memory → Demand3 m memory
demand_3_reached calls m reached memory b =
    let z = reached_sound calls m reached in
    let r = m.regs in
    let g = m.generator in
    let d = demand_3 r memory g (ready m memory z b) in
    let ok = z.accepted b.running_now in
    record {
      unrefused = λ k l. refusal_is m memory k ∙ d.unrefused k l;
      some = d.some;
      returns = rw (generator_is m memory (frame_ticks (screen r))) d.returns;
      not_before = λ k p l at. d.not_before k p l (rw (generator_is m memory k) at at);
      visible = count_like _ _ (shows_is m memory) (frame_ticks (screen r)) ∙ d.visible;
      transferred = count_like _ _ (transfers_is m memory) (frame_ticks (screen r)) ∙ d.transfers;
      transferred_plain = λ n. count_like _ _ (transfers_is m memory) (frame_ticks (screen r)) ∙ d.transfers ∙ one_field_transfers r ok (format_is r ∙ n);
      fields = field_at m memory z b;
      transferred_in = field_transferred m memory z b;
      addressed = field_addressed m memory z b;
      placed = field_placed m memory z b;
      placed_next = place_next r ok;
      placed_rises = place_rises r ok;
      placed_plain = λ n. place_plain r ok (format_is r ∙ n);
      placed_apart = λ n. places_apart r ok (format_is r ∙ n);
      coloured = field_coloured m memory z b;
      coloured_frame = fields_coloured m memory z b;
      summed_up = field_summed m memory z b;
      pictured_now = picture_free m memory z b;
      pictured_bytes = picture_bytes m memory z b;
      pictured_machine = picture_machine m memory z b;
      pictured_reads = λ buffer size address. ap (λ (x : Machine). answered x address) (picture_machine m memory z b buffer size);
      checksums_answered = field_answered m memory z b;
      same_end = λ others n met same c. same_end m n memory z (reached_sound others n met) b c same;
      second_frame = second m memory z b;
    }
