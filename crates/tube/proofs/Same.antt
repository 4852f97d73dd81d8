-- One chart in all rooms: each byte of the picture is its pixel's colour, and the file of an interlaced one has the chart where today's has it.
-- Assumes nothing. n: whether the room is interlaced.
use Prim.Native.Nat.{ℕ, zero, suc, ◌+◌, ◌-◌, ◌*◌, ◌/◌, ◌%◌, ◌≤◌, ◌<◌}
use mathlib.Core.Path.{◌≡◌, refl, sym, ◌∙◌, ap, subst}
use mathlib.Core.Bool.{Bool, true, false, cond, true≢false}
use mathlib.Core.List.{List, [], ◌∷◌}
use native.Mathlib.Nat.{zero-add}
use native.Mathlib.Omega.{arith}
use borrow.Author.Tests.{eqb-true, eqb-false, le-leb, lt-leb}
use lib.Dec.{eqb}
use lib.ListN.{length, get_or, replicate, length-append, length-replicate, get_or-append}
use lib.Seq.{get_or-append-add}
use Rattle.base.specs.Count.{run}
use Rattle.base.proofs.Run.{run_length, run_entry}
use Rattle.screen.specs.Totals.{frame_ticks, frame_pixels}
use Rattle.registers.specs.declared.Registers.{Registers}
use Rattle.signals.specs.Signals.{black, colours_of}
use Rattle.signals.specs.declared.Dot.{Dot}
use Rattle.memory.specs.Memory.{pixel_at}
use Rattle.generator.specs.Rows.{screen}
use Rattle.machine.specs.declared.Machine.{Machine}
use Rattle.frame.specs.Frame.{AtStart, FieldOf, in_fields, pixels_seen}
use Rattle.frame.specs.Demand.{field_place, field_dot}
use Rattle.frame.proofs.Gather.{in_fields_same, in_fields_two}
use Rattle.picture.specs.Span.{bytes_of}
use Rattle.picture.specs.Machines.{ticked, pictured}
use Rattle.picture.proofs.Machines.{ticked_generator}
use Rattle.demands.specs.Demand3.{dots_shown, at_field, ticks_in, Begins, Demand3}
use Rattle.demands.proofs.Third.{demand_3_reached}
use Rattle.demands.proofs.Reached.{reached_sound}
use Rattle.weave.specs.declared.Weave.{Weave}
use Rattle.weave.specs.Weave.{byte_at, byte_of}
use Rattle.weave.specs.Once.{Place, row_in}
use Rattle.calls.specs.Calls.{size_of}
use Rattle.calls.specs.declared.Size.{Size}
use Rattle.calls.specs.Woven.{weave_of, number_of, tube_at, Woven}
use Rattle.calls.proofs.Woven.{woven}
use Rattle.audiogram.specs.Entry.{paper_entry, entry_at}
use Rattle.audiogram.specs.Places.{place_of, holds}
use Rattle.audiogram.specs.Picture.{size}
use Rattle.audiogram.proofs.Places.{holds_rows}
use Rattle.audiogram.proofs.Theorems.{entry_bound, right_where_shown, right_only_shown, left_where_shown, left_only_shown, drawn_length, drawn_pixel, drawn_paper}
use Rattle.marks.specs.declared.points.Point.{Point}
use Rattle.scribe.specs.Ending.{lent_bytes, picture_bytes}
use Rattle.tube.specs.Started.{started}
use Rattle.tube.specs.Shown.{memory_of, frame_run, asked, refusal, picture, file_at, row_of, colour_at, entry_colours, ChartShown, SameChart}
use Rattle.tube.proofs.Reached.{run_calls, run_reached}
use Rattle.tube.proofs.Colours.{colour, white, only_red, only_blue, same_colour, place_shown, channel_of, three_bytes}
use Rattle.tube.proofs.Frame.{started_numbers, size_there, field_numbers, started_start, placed, field_placed, placed_inside, begins_there}

-- a byte of a buffer is one of its pixel's three
bytes_entry : (dots : List Dot) (k channel : ℕ) → k < length dots → channel < 3 → get_or (bytes_of (colours_of dots)) (3 * k + channel) 0 ≡ channel_of channel (get_or dots k black).colour
unfolding bytes_of
bytes_entry [] k channel h l = absurd (omega arith)
bytes_entry (dot ∷ rest) zero zero h l = refl
bytes_entry (dot ∷ rest) zero (suc zero) h l = refl
bytes_entry (dot ∷ rest) zero (suc (suc zero)) h l = refl
bytes_entry (dot ∷ rest) zero (suc (suc (suc channel))) h l = absurd (omega arith)
bytes_entry (dot ∷ rest) (suc k) channel h l =
    let at : 3 * suc k + channel ≡ suc (suc (suc (3 * k + channel))) = omega arith in
    rw at (bytes_entry rest k channel (omega arith) l)

-- an entry of one of the fields' lists
in_fields_entry : {A : Type 0} (r : Registers) (list : Bool → List A) (second : Bool) (i : ℕ) (other : A) → FieldOf r second → i < length (list second) → get_or (in_fields r list) (cond second (length (list false) + i) i) other ≡ get_or (list second) i other
in_fields_entry r list false i other has h = get_or-append (list false) (cond (screen r).interlaced (list true) []) other i h
in_fields_entry r list true i other has h =
    ap (λ (l : List _). get_or l (length (list false) + i) other) (in_fields_two r list (has refl)) ∙ get_or-append-add (list false) (list true) i other

-- what the script lends is the chart's memory
lent_enough : (n : Bool) → size n ≤ length (replicate {A = ℕ} (lent_bytes n) 0)
lent_enough n = rw (length-replicate {A = ℕ} (lent_bytes n) 0) (go n)
  where
    go : (k : Bool) → size k ≤ lent_bytes k
    go false = omega arith
    go true = omega arith

-- the machine that the script asks for the picture
module _ (n : Bool) (right left : List ℕ) where
  abbrev memory : List ℕ
  memory = memory_of n right left

  enough : size n ≤ length memory
  enough = rw (drawn_length n right left (replicate (lent_bytes n) 0)) (lent_enough n)

  first_frame : Demand3 (started n) memory
  unfolding ticked
  first_frame = demand_3_reached (run_calls n memory 0) (started n) (run_reached n memory 0) memory (begins_there n memory enough (started n) refl (started_start n))

  abbrev m : Machine
  m = asked n right left

  asked_regs : m.regs ≡ (started n).regs
  unfolding asked
  asked_regs = ap (λ (x : Machine). x.regs) (ticked_generator (started n) memory (frame_run n))

  asked_start : AtStart m.generator
  unfolding asked
  asked_start = subst (λ (k : ℕ). AtStart (ticked (started n) memory k).generator) (started_numbers n).ticks first_frame.returns

  begins : Begins m memory
  begins = begins_there n memory enough m asked_regs asked_start

  second_frame : Demand3 m memory
  unfolding asked
  second_frame = demand_3_reached (run_calls n memory (frame_run n)) m (run_reached n memory (frame_run n)) memory begins

  -- its dots, by field
  abbrev dots : Bool → List Dot
  dots second = run (field_dot (started n).regs second memory) 0 (pixels_seen (started n).regs second)

  all_dots : dots_shown m memory (frame_ticks (screen m.regs)) ≡ in_fields (started n).regs dots
  all_dots =
      second_frame.coloured_frame
      ∙ in_fields_same m.regs (λ second. dots_shown (at_field m memory second) memory (ticks_in m)) (λ second. run (field_dot m.regs second memory) 0 (pixels_seen m.regs second)) (second_frame.coloured false (λ e. absurd (true≢false (sym e)))) (λ e. second_frame.coloured true (λ _. e))
      ∙ ap (λ (r : Registers). in_fields r (λ second. run (field_dot r second memory) 0 (pixels_seen r second))) asked_regs

  pub sized : size_of m ≡ record { width = 640; height = cond n 482 480; half = cond n 272 0 }
  sized = ap (λ (r : Registers). size_of (record { regs = r; generator = m.generator })) asked_regs ∙ size_there n m.generator

  pub taken : refusal n right left ≡ 0
  taken =
      let buffer : List ℕ = replicate (picture_bytes n) 0 in
      let size_of_lem : length buffer ≡ 3 * frame_pixels (screen m.regs) = rw (length-replicate {A = ℕ} (picture_bytes n) 0, asked_regs) (sym (started_numbers n).bytes) in
      subst (λ (k : ℕ). (pictured m memory k).refusal ≡ 0) (length-replicate {A = ℕ} (picture_bytes n) 0) (second_frame.pictured_now buffer size_of_lem)

  module _ (buffer : List ℕ) (long : length buffer ≡ picture_bytes n) where
    whole : picture n right left buffer ≡ bytes_of (colours_of (in_fields (started n).regs dots))
    unfolding picture
    whole =
        let size_of_lem : length buffer ≡ 3 * frame_pixels (screen m.regs) = long ∙ rw asked_regs (sym (started_numbers n).bytes) in
        second_frame.pictured_bytes buffer size_of_lem ∙ ap (λ (l : List Dot). bytes_of (colours_of l)) all_dots

    module _ (second : Bool) (has : second ≡ true → n ≡ true) (i channel : ℕ) (h : i < pixels_seen (started n).regs second) (l : channel < 3) where
      in_field : FieldOf (started n).regs second
      in_field e = (started_numbers n).format ∙ has e

      dot_there : get_or (in_fields (started n).regs dots) (number_of (started n).regs second i) black ≡ field_dot (started n).regs second memory i
      dot_there =
          subst (λ (k : ℕ). get_or (in_fields (started n).regs dots) (cond second (k + i) i) black ≡ get_or (dots second) i black) (run_length _ 0 _) (in_fields_entry (started n).regs dots second i black in_field (rw run_length h))
          ∙ run_entry (field_dot (started n).regs second memory) 0 (pixels_seen (started n).regs second) i black h ∙ ap (field_dot (started n).regs second memory) (zero-add i)

      few : number_of (started n).regs second i < length (in_fields (started n).regs dots)
      few = go second in_field h
        where
          go : (s : Bool) → FieldOf (started n).regs s → i < pixels_seen (started n).regs s → number_of (started n).regs s i < length (in_fields (started n).regs dots)
          go false o k = rw (length-append, run_length) (omega arith)
          go true o k = rw (in_fields_two (started n).regs dots (o refl), length-append) (omega (arith, run_length (field_dot (started n).regs false memory) 0 (pixels_seen (started n).regs false), run_length (field_dot (started n).regs true memory) 0 (pixels_seen (started n).regs true)))

      -- A BYTE OF THE PICTURE, of the entry that lies at its pixel's place
      pub picture_byte : get_or (picture n right left buffer) (3 * number_of (started n).regs second i + channel) 0 ≡ channel_of channel (colour n (pixel_at 2 memory (placed n second i)))
      unfolding field_dot
      picture_byte =
          ap (λ (b : List ℕ). get_or b (3 * number_of (started n).regs second i + channel) 0) whole
          ∙ bytes_entry (in_fields (started n).regs dots) (number_of (started n).regs second i) channel few l
          ∙ ap (λ (dot : Dot). channel_of channel dot.colour) dot_there
          ∙ ap (channel_of channel) (place_shown n _ memory (field_place (started n).regs second i) _ _)
          ∙ ap (λ (place : ℕ). channel_of channel (colour n (pixel_at 2 memory place))) (field_placed n second has i)

-- where the pixels of an interlaced picture stand in its file
module _ (right left buffer : List ℕ) (long : length buffer ≡ picture_bytes true) where
  abbrev w : Weave
  w = weave_of (size_of (asked true right left))

  on_tube : Woven (started true).regs w
  unfolding asked
  on_tube =
      subst (λ (r : Registers). Woven r w) (asked_regs true right left)
      (woven (asked true right left) (reached_sound (run_calls true (memory_of true right left) (frame_run true)) (asked true right left) (run_reached true (memory_of true right left) (frame_run true))) (rw (asked_regs true right left) (started_numbers true).runs) (rw (asked_regs true right left) (started_numbers true).word))

  module _ (second : Bool) (i line column channel : ℕ) (at : i + cond second 272 0 ≡ line * 640 + column) (inside : column < 640) (h : i < pixels_seen (started true).regs second) (l : channel < 3) where
    tube_is : tube_at (started true).regs second i ≡ record { row = row_in second line; column = column }
    tube_is =
        let row : (line * 640 + column) / 640 ≡ line = omega arith in
        let rest : (line * 640 + column) % 640 ≡ column = omega arith in
        rw ((field_numbers true second (λ _. refl)).lead, (started_numbers true).width, at, row, rest)

    -- A BYTE OF THE FILE
    file_byte : file_at true right left buffer (row_in second line) column channel ≡ channel_of channel (colour true (pixel_at 2 (memory_of true right left) (placed true second i)))
    unfolding file_at
    file_byte =
        subst (λ (place : Place). byte_at w (picture true right left buffer) (byte_of w place.row place.column channel) ≡ get_or (picture true right left buffer) (3 * number_of (started true).regs second i + channel) 0) tube_is (on_tube.shown (picture true right left buffer) second i channel h l)
        ∙ picture_byte true right left buffer long second (λ _. refl) i channel h l

-- ---- the chart

module _ (right left : List ℕ) where
  -- the entry that lies at a place of the memory
  entry_there : (n : Bool) (p : Point) → p.x < 640 → p.y < 480 → pixel_at 2 (memory_of n right left) (place_of n p) ≡ entry_at right left p
  entry_there n p h l = drawn_pixel n right left (replicate (lent_bytes n) 0) (lent_enough n) p h l

  paper_there : (place : ℕ) → place < 4 * size true → holds true place ≡ false → pixel_at 2 (memory_of true right left) place ≡ paper_entry
  paper_there place h e = drawn_paper true right left (replicate (lent_bytes true) 0) (lent_enough true) place h e

  -- TODAY'S FILE has the chart
  today_shows : (buffer : List ℕ) → length buffer ≡ picture_bytes false → (p : Point) (channel : ℕ) → p.x < 640 → p.y < 480 → channel < 3 →
      file_at false right left buffer p.y p.x channel ≡ channel_of channel (colour false (entry_at right left p))
  unfolding file_at place_of
  today_shows buffer long p channel h l c =
      let i = p.y * 640 + p.x in
      let there : placed false false i ≡ place_of false p = omega arith in
      ap (λ (width : ℕ). get_or (picture false right left buffer) (3 * (p.y * width + p.x) + channel) 0) (ap (λ (s : Size). s.width) (sized false right left))
      ∙ picture_byte false right left buffer long false (λ e. e) i channel (rw (field_numbers false false (λ e. e)).pixels (omega arith)) c
      ∙ ap (λ (place : ℕ). channel_of channel (colour false (pixel_at 2 (memory_of false right left) place))) there
      ∙ ap (λ (entry : ℕ). channel_of channel (colour false entry)) (entry_there false p h l)

  -- AND SO HAS THE OLDEST ROOMS', one row lower
  oldest_shows : (buffer : List ℕ) → length buffer ≡ picture_bytes true → (p : Point) (channel : ℕ) → p.x < 640 → p.y < 480 → channel < 3 →
      file_at true right left buffer (p.y + 1) p.x channel ≡ channel_of channel (colour true (entry_at right left p))
  unfolding place_of
  oldest_shows buffer long p channel h l c = go (eqb (p.y % 2) 1) refl
    where
      shown : (second : Bool) (i line : ℕ) → i + cond second 272 0 ≡ line * 640 + p.x → i < pixels_seen (started true).regs second → row_in second line ≡ p.y + 1 → placed true second i ≡ place_of true p →
          file_at true right left buffer (p.y + 1) p.x channel ≡ channel_of channel (colour true (entry_at right left p))
      shown second i line at few row there =
          ap (λ (r : ℕ). file_at true right left buffer r p.x channel) (sym row)
          ∙ file_byte right left buffer long second i line p.x channel at h few c
          ∙ ap (λ (place : ℕ). channel_of channel (colour true (pixel_at 2 (memory_of true right left) place))) there
          ∙ ap (λ (entry : ℕ). channel_of channel (colour true entry)) (entry_there true p h l)

      go : (b : Bool) → eqb (p.y % 2) 1 ≡ b → file_at true right left buffer (p.y + 1) p.x channel ≡ channel_of channel (colour true (entry_at right left p))
      go true e =
          let odd = eqb-true (p.y % 2) 1 e in
          shown true (368 + (p.y / 2 * 640 + p.x)) (p.y / 2 + 1) (omega arith) (rw (field_numbers true true (λ _. refl)).pixels (omega arith)) (omega (arith, odd)) (rw odd)
      go false e =
          let even : p.y % 2 ≡ 0 = omega (arith, eqb-false (p.y % 2) 1 e) in
          shown false (p.y / 2 * 640 + p.x) (p.y / 2) (omega arith) (rw (field_numbers true false (λ _. refl)).pixels (omega arith)) (omega (arith, even)) (rw (even, zero-add))

  -- the half rows: paper
  half_row : (buffer : List ℕ) → length buffer ≡ picture_bytes true → (second : Bool) (i line column channel : ℕ) → i + cond second 272 0 ≡ line * 640 + column → column < 640 → i < pixels_seen (started true).regs second → channel < 3 → holds true (placed true second i) ≡ false →
      file_at true right left buffer (row_in second line) column channel ≡ 255
  half_row buffer long second i line column channel at inside few c none =
      file_byte right left buffer long second i line column channel at inside few c
      ∙ ap (λ (entry : ℕ). channel_of channel (colour true entry)) (paper_there (placed true second i) (placed_inside true second (λ _. refl) i few) none)
      ∙ ap (channel_of channel) (white true)
      ∙ all_white channel c
    where
      all_white : (k : ℕ) → k < 3 → channel_of k 0xFFFFFF ≡ 255
      all_white zero h = refl
      all_white (suc zero) h = refl
      all_white (suc (suc zero)) h = refl
      all_white (suc (suc (suc k))) h = absurd (omega arith)

  above_half : (column : ℕ) → column < 640 → holds true (placed true true (column - 272)) ≡ false
  above_half column h = holds_rows true 1 (column - 272) (omega arith) ∙ rw (lt-leb 368 (column - 272) (omega arith))

  below_half : (column : ℕ) → column < 272 → holds true (placed true false (153600 + column)) ≡ false
  below_half column h =
      let line : (153600 + column - 0) / 640 ≡ 240 = omega arith in
      holds_rows true 0 (153600 + column) (omega arith) ∙ rw (le-leb 0 (153600 + column) (omega arith), line)

  -- the colour of a pixel of the chart
  shows_byte : (n : Bool) (buffer : List ℕ) → length buffer ≡ picture_bytes n → (p : Point) (channel : ℕ) → p.x < 640 → p.y < 480 → channel < 3 →
      file_at n right left buffer (row_of n p.y) p.x channel ≡ channel_of channel (colour n (entry_at right left p))
  shows_byte false buffer long p channel h l c = today_shows buffer long p channel h l c
  shows_byte true buffer long p channel h l c = oldest_shows buffer long p channel h l c

  -- THE COLOUR OF A PIXEL OF THE CHART, in the file of any room, is its entry's
  colour_shown : (n : Bool) (buffer : List ℕ) → length buffer ≡ picture_bytes n → (p : Point) → p.x < 640 → p.y < 480 → colour_at n right left buffer p ≡ get_or entry_colours (entry_at right left p) 0
  colour_shown n buffer long p h l =
      rw (shows_byte n buffer long p 0 h l (omega arith), shows_byte n buffer long p 1 h l (omega arith), shows_byte n buffer long p 2 h l (omega arith)) (three_bytes n (entry_at right left p) (entry_bound right left p))

  -- THE CHART IN A ROOM
  pub chart_shown : (n : Bool) → ChartShown n right left
  chart_shown n =
      record {
        taken = taken n right left;
        sized = sized n right left;
        coloured = colour_shown n;
        right_red = λ buffer long p h l e. colour_shown n buffer long p h l ∙ rw (right_where_shown right left p e);
        red_right = λ buffer long p h l e. right_only_shown right left p (only_red (entry_at right left p) (entry_bound right left p) (sym (colour_shown n buffer long p h l) ∙ e));
        left_blue = λ buffer long p h l e f. colour_shown n buffer long p h l ∙ rw (left_where_shown right left p e f);
        blue_left = λ buffer long p h l e. left_only_shown right left p (only_blue (entry_at right left p) (entry_bound right left p) (sym (colour_shown n buffer long p h l) ∙ e));
      }

  -- ONE CHART IN ALL ROOMS
  pub same_chart : SameChart right left
  same_chart =
      record {
        same = λ today oldest long longer p channel h l c. oldest_shows oldest longer p channel h l c ∙ ap (channel_of channel) (same_colour (entry_at right left p) (entry_bound right left p)) ∙ sym (today_shows today long p channel h l c);
        above = λ oldest long column channel h l c. half_row oldest long true (column - 272) 0 column channel (omega arith) l (rw (field_numbers true true (λ _. refl)).pixels (omega arith)) c (above_half column l);
        below = λ oldest long column channel h c. half_row oldest long false (153600 + column) 240 column channel (omega arith) (omega arith) (rw (field_numbers true false (λ _. refl)).pixels (omega arith)) c (below_half column h);
      }
