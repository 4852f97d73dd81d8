-- LineStart and the unused bits of control A change no answer of any later call: two machines that differ there alone answer alike, and
-- every call leaves two such machines. Assumes nothing.
use Prim.Native.Nat.{ℕ, zero, suc, ◌≤◌}
use mathlib.Core.Bool.{Bool, true, false, cond}
use mathlib.Core.List.{List, [], ◌∷◌}
use mathlib.Core.Path.{◌≡◌, refl, sym, ap, ◌∙◌}
use native.Mathlib.Omega.{arith}
use borrow.Author.Tests.{eqb-true, eqb-false, eq-eqb}
use lib.Dec.{eqb}
use lib.ListN.{length, get_or, set}
use lib.Seq.{get_or-set_other, set-set, set_comm}
use Rattle.control.specs.Control.{field, running, plain}
use Rattle.units.specs.Parameters.{screen_of}
use Rattle.screen.specs.Limits.{later_limit, limit_of}
use Rattle.screen.specs.Totals.{frame_ticks, frame_pixels}
use Rattle.registers.specs.Map.{place_of, is_reserved}
use Rattle.registers.specs.File.{value_in, store_in}
use Rattle.registers.specs.declared.map.Place.{Place}
use Rattle.registers.specs.declared.map.Place.TheVariants.{Reserved, Parameter, Mask, Control, Top, Colour, Checksum, Position, Palette, Store}
use Rattle.registers.specs.declared.Registers.{Registers}
use Rattle.registers.proofs.map.Laws.{address_single}
use Rattle.lines.specs.Lines.{period}
use Rattle.generator.specs.Rows.{screen_under, screen, visible_at}
use Rattle.generator.specs.Counters.{displaying}
use Rattle.generator.specs.Tick.{tick_of, after}
use Rattle.generator.specs.declared.Generator.{Generator}
use Rattle.generator.specs.declared.Ticked.{Ticked}
use Rattle.machine.specs.Access.{start_limit, write_refusal}
use Rattle.machine.specs.Alike.{SameMode, Alike, with_line_start}
use Rattle.machine.specs.Calls.{write, read, tick}
use Rattle.machine.specs.Rules.{stored, written, read_refusal, value_at, answered, advanced}
use Rattle.machine.specs.declared.Machine.{Machine}
use Rattle.machine.proofs.access.Passed.{passed}
use Rattle.machine.proofs.Unused.{same_running, same_interlaced, same_changes, same_visible, same_tick}
use Rattle.frame.specs.Frame.{drawn, refused_within}
use Rattle.frame.proofs.Gather.{gathered_same}
use Rattle.picture.specs.Picture.{picture_refusal, drawn_of, buffer_of}
use Rattle.picture.specs.declared.Drawn.{Drawn}
use Rattle.picture.specs.Machines.{pictured}
use Rattle.demands.specs.Asked.{Asked, of, lent, picture, after_asked, after_every, answer_to, ReadsElsewhere}
use Rattle.demands.specs.Demand2.{AgreeButUnused}

-- all registers but the parameters and control A
abbrev bare : Registers → Registers
bare r =
    record {
      params = [];
      mask = r.mask;
      control = 0;
      top = r.top;
      colours = r.colours;
      position = r.position;
      palette = r.palette;
      store = r.store;
    }

-- parameters and control words that are one but for a place of their own, LineStart or control A, and there where nothing takes effect
record Own (own : Place) (p q : List ℕ) (c d : ℕ) : Type 0 where
  params : set q 11 0 ≡ set p 11 0
  params_own : (own ≡ Parameter 11 → ⊥) → q ≡ p
  mode : SameMode c d
  sync : plain d ≡ plain c
  control_own : (own ≡ Control → ⊥) → d ≡ c

-- registers that are one but for that
record Near (own : Place) (r other : Registers) : Type 0 where
  part : Own own r.params other.params r.control other.control
  rest : bare other ≡ bare r

-- ---- a store of one value in both leaves them so

stored_params : (a b : List ℕ) (k v : ℕ) → set a 11 0 ≡ set b 11 0 → set (set a k v) 11 0 ≡ set (set b k v) 11 0
stored_params a b k v e = go (eqb k 11) refl
  where
    go : (t : Bool) → eqb k 11 ≡ t → set (set a k v) 11 0 ≡ set (set b k v) 11 0
    go true h = let i = eqb-true k 11 h in rw (i, set-set a 11 v 0, set-set b 11 v 0) e
    go false h = let i = eqb-false k 11 h in rw (set_comm a k 11 v 0 i, set_comm b k 11 v 0 i, e)

module _ (own : Place) (r other : Registers) (a : Near own r other) where
  stored_parameter : (k v : ℕ) → Own own (set r.params k v) (set other.params k v) r.control other.control
  stored_parameter k v =
      record {
        params = stored_params other.params r.params k v a.part.params;
        params_own = λ n. ap (λ (l : List ℕ). set l k v) (a.part.params_own n);
        mode = a.part.mode;
        sync = a.part.sync;
        control_own = a.part.control_own;
      }

  stored_control : (v : ℕ) → Own own r.params other.params v v
  stored_control v =
      record {
        params = a.part.params;
        params_own = a.part.params_own;
        mode = record { low = refl; middle = refl; high = refl };
        sync = refl;
        control_own = λ n. refl;
      }

  near_stored : (p : Place) (v : ℕ) → Near own (store_in r p v) (store_in other p v)
  unfolding store_in
  near_stored Reserved v = a
  near_stored (Parameter k) v = record { part = stored_parameter k v; rest = a.rest }
  near_stored Mask v = record { part = a.part; rest = ap (λ (x : Registers). store_in x Mask v) a.rest }
  near_stored Control v = record { part = stored_control v; rest = a.rest }
  near_stored Top v = record { part = a.part; rest = ap (λ (x : Registers). store_in x Top v) a.rest }
  near_stored (Colour k) v = record { part = a.part; rest = ap (λ (x : Registers). store_in x (Colour k) v) a.rest }
  near_stored (Checksum k) v = a
  near_stored Position v = record { part = a.part; rest = ap (λ (x : Registers). store_in x Position v) a.rest }
  near_stored (Palette k) v = record { part = a.part; rest = ap (λ (x : Registers). store_in x (Palette k) v) a.rest }
  near_stored (Store k) v = record { part = a.part; rest = ap (λ (x : Registers). store_in x (Store k) v) a.rest }

  -- ---- what two such register files share

  parameter_same : (k : ℕ) → (k ≡ 11 → ⊥) → get_or other.params k 0 ≡ get_or r.params k 0
  parameter_same k n =
      sym (get_or-set_other other.params 11 k 0 0 n)
      ∙ ap (λ (l : List ℕ). get_or l k 0) a.part.params
      ∙ get_or-set_other r.params 11 k 0 0 n

  abbrev start : ℕ
  start = get_or other.params 11 0

  entry_same : (k : ℕ) → eqb k 11 ≡ false → get_or other.params k 0 ≡ get_or r.params k 0
  entry_same k e = parameter_same k (eqb-false k 11 e)

  -- under any control word
  under_same : (v : ℕ) → screen_under other v ≡ with_line_start (screen_under r v) start
  unfolding screen_of
  under_same v = rw (entry_same 0 refl, entry_same 1 refl, entry_same 2 refl, entry_same 3 refl, entry_same 4 refl, entry_same 5 refl, entry_same 6 refl, entry_same 7 refl, entry_same 8 refl, entry_same 9 refl, entry_same 10 refl, entry_same 12 refl, entry_same 13 refl)

  screen_same : screen other ≡ with_line_start (screen r) start
  screen_same = under_same other.control ∙ ap (λ (b : Bool). with_line_start (screen_of r.params b) start) (same_interlaced r.control other.control a.part.mode)

  alike : Alike r other start
  alike =
      record {
        line_start = screen_same;
        mode = a.part.mode;
        mask = ap (λ (x : Registers). x.mask) a.rest;
        top = ap (λ (x : Registers). x.top) a.rest;
        colours = ap (λ (x : Registers). x.colours) a.rest;
        position = ap (λ (x : Registers). x.position) a.rest;
        palette = ap (λ (x : Registers). x.palette) a.rest;
        store = ap (λ (x : Registers). x.store) a.rest;
      }

  running_same : running other.control ≡ running r.control
  running_same = same_running r.control other.control a.part.mode

  -- what stands at every other place
  value_same : (p : Place) → (p ≡ own → ⊥) → value_in other p ≡ value_in r p
  unfolding value_in
  value_same Reserved n = refl
  value_same (Parameter k) n = go (eqb k 11) refl
    where
      go : (t : Bool) → eqb k 11 ≡ t → get_or other.params k 0 ≡ get_or r.params k 0
      go true e = ap (λ (l : List ℕ). get_or l k 0) (a.part.params_own (λ same. n (ap Parameter (eqb-true k 11 e) ∙ sym same)))
      go false e = entry_same k e
  value_same Mask n = alike.mask
  value_same Control n = a.part.control_own (λ same. n (sym same))
  value_same Top n = alike.top
  value_same (Colour k) n = ap (λ (l : List ℕ). get_or l k 0) alike.colours
  value_same (Checksum k) n = refl
  value_same Position n = alike.position
  value_same (Palette k) n = ap (λ (l : List ℕ). get_or l k 0) alike.palette
  value_same (Store k) n = ap (λ (l : List ℕ). get_or l k 0) alike.store

  -- a write's refusal
  limit_same : (v : ℕ) → limit_of v (screen_under other v) ≡ limit_of v (screen_under r v)
  unfolding limit_of later_limit
  limit_same v = rw (under_same v)

  refusal_same : (p : Place) (v : ℕ) → write_refusal other p v ≡ write_refusal r p v
  unfolding write_refusal start_limit
  refusal_same p v = rw (same_changes r other start alike v, running_same, limit_same v)

  module _ (memory : List ℕ) (g : Generator) where
    displaying_same : displaying other g ≡ displaying r g
    unfolding displaying period
    displaying_same = rw (running_same, screen_same)

    tick_same : tick_of other memory g ≡ tick_of r memory g
    tick_same = same_tick r other start alike memory g a.part.sync

  -- a frame's ticks, and what they come to
  module _ (memory : List ℕ) (g : Generator) where
    after_same : (n : ℕ) → after other memory g n ≡ after r memory g n
    unfolding after
    after_same zero = refl
    after_same (suc n) = ap (λ (x : Generator). (tick_of other memory x).next) (after_same n) ∙ ap (λ (t : Ticked). t.next) (tick_same memory (after r memory g n))

    tick_after_same : (n : ℕ) → tick_of other memory (after other memory g n) ≡ tick_of r memory (after r memory g n)
    tick_after_same n = ap (tick_of other memory) (after_same n) ∙ tick_same memory (after r memory g n)

    refused_same : (n : ℕ) → refused_within other memory g n ≡ refused_within r memory g n
    unfolding refused_within
    refused_same n = simp tick_after_same

    visible_same : (n : ℕ) → visible_at other (after other memory g n) ≡ visible_at r (after r memory g n)
    visible_same n = ap (visible_at other) (after_same n) ∙ same_visible r other start alike (after r memory g n)

    drawn_same : (n : ℕ) → drawn other memory g n ≡ drawn r memory g n
    drawn_same n = gathered_same _ _ _ _ n (λ k l. visible_same k) (λ k. ap (λ (t : Ticked). t.signals.dots) (tick_after_same k))

    ticks_same : frame_ticks (screen other) ≡ frame_ticks (screen r)
    ticks_same = rw screen_same

    pixels_same : frame_pixels (screen other) ≡ frame_pixels (screen r)
    pixels_same = rw screen_same

    picture_refusal_same : (size : ℕ) → picture_refusal other memory g size ≡ picture_refusal r memory g size
    unfolding picture_refusal
    picture_refusal_same size = rw (running_same, pixels_same, ticks_same, refused_same (frame_ticks (screen r)))

    drawn_of_same : (size : ℕ) → drawn_of other memory g size ≡ drawn_of r memory g size
    unfolding drawn_of
    drawn_of_same size = rw (picture_refusal_same size, ticks_same, after_same (frame_ticks (screen r)))

    buffer_same : (buffer : List ℕ) → buffer_of other memory g buffer ≡ buffer_of r memory g buffer
    unfolding buffer_of
    buffer_same buffer = rw (picture_refusal_same (length buffer), ticks_same, drawn_same (frame_ticks (screen r)))

-- ---- two machines

record NearMachines (own : Place) (m other : Machine) : Type 0 where
  regs : Near own m.regs other.regs
  generator : other.generator ≡ m.generator

module _ (own : Place) (m other : Machine) (a : NearMachines own m other) where
  written_same : (address v : ℕ) → (written other address v).refusal ≡ (written m address v).refusal
  unfolding written
  written_same address v = refusal_same own m.regs other.regs a.regs (place_of address) v

  read_refusal_same : (p : Place) → read_refusal other p ≡ read_refusal m p
  unfolding read_refusal
  read_refusal_same p =
      rw (a.generator, running_same own m.regs other.regs a.regs, displaying_same own m.regs other.regs a.regs [] m.generator)

  value_at_same : (p : Place) → (p ≡ own → ⊥) → value_at other p ≡ value_at m p
  unfolding value_at
  value_at_same p n = rw (a.generator, value_same own m.regs other.regs a.regs p n)

  answered_same : (address : ℕ) → (answered other address).refusal ≡ (answered m address).refusal
  unfolding answered
  answered_same address = read_refusal_same (place_of address)

  read_same : (address : ℕ) → (place_of address ≡ own → ⊥) → (answered other address).value ≡ (answered m address).value
  unfolding answered
  read_same address n = rw (read_refusal_same (place_of address), value_at_same (place_of address) n)

  tick_of_same : (memory : List ℕ) → tick_of other.regs memory other.generator ≡ tick_of m.regs memory m.generator
  tick_of_same memory = ap (tick_of other.regs memory) a.generator ∙ tick_same own m.regs other.regs a.regs memory m.generator

  drawn_by_same : (memory : List ℕ) (size : ℕ) → drawn_of other.regs memory other.generator size ≡ drawn_of m.regs memory m.generator size
  drawn_by_same memory size =
      ap (λ (g : Generator). drawn_of other.regs memory g size) a.generator
      ∙ drawn_of_same own m.regs other.regs a.regs memory m.generator size

  buffer_by_same : (memory buffer : List ℕ) → buffer_of other.regs memory other.generator buffer ≡ buffer_of m.regs memory m.generator buffer
  buffer_by_same memory buffer =
      ap (λ (g : Generator). buffer_of other.regs memory g buffer) a.generator
      ∙ buffer_same own m.regs other.regs a.regs memory m.generator buffer

  -- every answer but the reading of their own place
  answer_same : (address : ℕ) → place_of address ≡ own → is_reserved own ≡ false → (call : Asked) → ReadsElsewhere address call → answer_to other call ≡ answer_to m call
  unfolding advanced pictured
  answer_same address here mapped (of (write to v)) n = rw (written_same to v)
  answer_same address here mapped (of (read from)) n =
      rw (answered_same from, read_same from (λ same. n (sym (address_single address from (here ∙ sym same) (ap is_reserved here ∙ mapped)))))
  answer_same address here mapped (of (tick memory)) n = rw (tick_of_same memory)
  answer_same address here mapped (lent memory) n = rw (tick_of_same memory)
  answer_same address here mapped (picture memory buffer) n = rw (drawn_by_same memory (length buffer), buffer_by_same memory buffer)

  -- and the machines after it
  write_near : (address v : ℕ) → NearMachines own (written m address v).machine (written other address v).machine
  unfolding written stored
  write_near address v = rw (written_same address v) (go (eqb (write_refusal m.regs (place_of address) v) 0))
    where
      go : (t : Bool) → NearMachines own (cond t (stored m (place_of address) v) m) (cond t (stored other (place_of address) v) other)
      go true =
          record {
            regs = near_stored own m.regs other.regs a.regs (place_of address) v;
            generator = rw (running_same own m.regs other.regs a.regs, a.generator);
          }
      go false = a

  after_near : (call : Asked) → NearMachines own (after_asked m call) (after_asked other call)
  unfolding answered advanced pictured
  after_near (of (write address v)) = write_near address v
  after_near (of (read address)) = a
  after_near (of (tick memory)) = record { regs = a.regs; generator = ap (λ (t : Ticked). t.next) (tick_of_same memory) }
  after_near (lent memory) = record { regs = a.regs; generator = ap (λ (t : Ticked). t.next) (tick_of_same memory) }
  after_near (picture memory buffer) = record { regs = a.regs; generator = ap (λ (t : Drawn). t.next) (drawn_by_same memory (length buffer)) }

every_near : (own : Place) (m other : Machine) (calls : List Asked) → NearMachines own m other → NearMachines own (after_every m calls) (after_every other calls)
every_near own m other [] a = a
every_near own m other (call ∷ rest) a = every_near own (after_asked m call) (after_asked other call) rest (after_near own m other a call)

-- ---- two writes of LineStart, and of control A

module _ (m : Machine) where
  line_starts_near : (v w : ℕ) → Near (Parameter 11) (store_in m.regs (Parameter 11) v) (store_in m.regs (Parameter 11) w)
  unfolding store_in
  line_starts_near v w =
      record {
        part =
            record {
              params = set-set m.regs.params 11 w 0 ∙ sym (set-set m.regs.params 11 v 0);
              params_own = λ n. absurd (n refl);
              mode = record { low = refl; middle = refl; high = refl };
              sync = refl;
              control_own = λ n. refl;
            };
        rest = refl;
      }

  line_start_near : (v w : ℕ) → (written m 0x02C v).refusal ≡ 0 → (written m 0x02C w).refusal ≡ 0 → NearMachines (Parameter 11) (written m 0x02C v).machine (written m 0x02C w).machine
  unfolding written place_of stored
  line_start_near v w e f = simp (eq-eqb _ 0 e, eq-eqb _ 0 f) (record { regs = line_starts_near v w; generator = refl })

  module _ (c d : ℕ) (s : AgreeButUnused c d) (e : (written m 0x060 c).refusal ≡ 0) (f : (written m 0x060 d).refusal ≡ 0) where
    narrow : (v : ℕ) → (written m 0x060 v).refusal ≡ 0 → v ≤ 0xFFFFFF
    unfolding written place_of
    narrow v h = (passed m.regs Control v h).narrow

    same_mode : SameMode c d
    same_mode =
        record {
          low = omega (arith, s.bits_0_1);
          middle = omega (arith, s.bits_3_4);
          high = omega (arith, s.bits_10_23, narrow c e, narrow d f);
        }

    same_sync : plain d ≡ plain c
    same_sync = let bit_4 : field 4 1 d ≡ field 4 1 c = omega (arith, s.bits_3_4) in rw bit_4

    controls_near : Near Control (store_in m.regs Control c) (store_in m.regs Control d)
    unfolding store_in
    controls_near =
        record {
          part = record { params = refl; params_own = λ n. refl; mode = same_mode; sync = same_sync; control_own = λ n. absurd (n refl) };
          rest = refl;
        }

    control_near : NearMachines Control (written m 0x060 c).machine (written m 0x060 d).machine
    unfolding written place_of stored
    control_near = simp (eq-eqb _ 0 e, eq-eqb _ 0 f) (record { regs = controls_near; generator = rw (same_running c d same_mode) })

  -- LINESTART CHANGES NO ANSWER BUT ITS OWN READING
  pub line_start_unused : (v w : ℕ) → (written m 0x02C v).refusal ≡ 0 → (written m 0x02C w).refusal ≡ 0 → (later : List Asked) (call : Asked) → ReadsElsewhere 0x02C call →
      answer_to (after_every (written m 0x02C w).machine later) call ≡ answer_to (after_every (written m 0x02C v).machine later) call
  unfolding place_of
  line_start_unused v w e f later call n =
      answer_same (Parameter 11) _ _ (every_near (Parameter 11) _ _ later (line_start_near v w e f)) 0x02C refl refl call n

  -- NOR DO BITS 2 AND 5 TO 9 OF CONTROL A
  pub bits_unused : (v w : ℕ) → AgreeButUnused v w → (written m 0x060 v).refusal ≡ 0 → (written m 0x060 w).refusal ≡ 0 → (later : List Asked) (call : Asked) → ReadsElsewhere 0x060 call →
      answer_to (after_every (written m 0x060 w).machine later) call ≡ answer_to (after_every (written m 0x060 v).machine later) call
  unfolding place_of
  bits_unused v w s e f later call n = answer_same Control _ _ (every_near Control _ _ later (control_near v w s e f)) 0x060 refl refl call n
