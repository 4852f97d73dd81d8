-- The picture that the code draws is its fields', which is the frame's, and so the ticks'. Assumes nothing.
use Prim.Native.Nat.{ℕ, zero, suc, ◌+◌, ◌-◌, ◌*◌, ◌/◌, ◌%◌, ◌^◌, ◌≤◌, ◌<◌}
use mathlib.Core.Bool.{Bool, true, false, not, cond, ◌&&◌, ◌||◌, true≢false, or-false}
use mathlib.Core.List.{List, [], ◌++◌, map-append}
use mathlib.Core.Path.{◌≡◌, refl, sym, ap, ◌∙◌}
use native.Mathlib.Nat.{pow-suc}
use native.Mathlib.Omega.{arith}
use borrow.Author.Tests.{eqb-true, ne_eqb}
use lib.Dec.{eqb}
use lib.ListN.{length, replicate, length-append, length-map}
use lib.Pow.{pow_mono}
use lib.Seq.{sets}
use Rattle.base.specs.Count.{run}
use Rattle.base.specs.Sum.{capped}
use Rattle.base.proofs.Run.{run_length, run_same}
use Rattle.control.specs.Control.{running, interlaced, forced_blank, transferring, depth, pixel_bits}
use Rattle.units.specs.Parameters.{screen_of}
use Rattle.screen.specs.Totals.{frame_ticks, frame_pixels}
use Rattle.screen.proofs.limits.Laws.{narrow}
use Rattle.screen.proofs.totals.Counts.{visible_fit}
use Rattle.registers.specs.declared.Registers.{Registers}
use Rattle.memory.specs.Memory.{bits_at, pixel_shown}
use Rattle.colour.specs.Colour.{masked_palette}
use Rattle.cursor.specs.Cursor.{code_over}
use Rattle.pixel.specs.Dot.{dot_at}
use Rattle.signals.specs.Signals.{black, colours_of}
use Rattle.signals.specs.declared.Dot.{Dot}
use Rattle.cursor.specs.Cursor.{over}
use Rattle.pixel.specs.Sums.{none}
use Rattle.pixel.specs.declared.Sums.{Sums}
use Rattle.pixel.proofs.Laws.{colours_run}
use Rattle.colour.proofs.Laws.{masked_palette_entry}
use Rattle.generator.specs.Rows.{screen, place, asks}
use Rattle.generator.specs.Tick.{in_lines, dot_of, after}
use Rattle.generator.specs.Sound.{Sound}
use Rattle.generator.specs.declared.Generator.{Generator}
use Rattle.generator.proofs.Rows.{top_used_in}
use Rattle.frame.specs.Frame.{refused_within, ticks_seen, pixels_seen, row_address, address_at, place_at, dot_for, field_dots, frame_dots, field_refuses20, picture_refuses20, sums_to, field_end, frame_end, Whole}
use Rattle.frame.proofs.Gather.{in_fields_one, in_fields_two}
use Rattle.frame.proofs.Whole.{first_end, whole}
use Rattle.frame.proofs.Demand.{frame_pixels_lem}
use Rattle.picture.specs.Picture.{bytes_for, refuses22, picture_refusal, drawn_of, buffer_of}
use Rattle.picture.specs.Span.{bytes_of, Painted, Through, through, colour_through}
use Rattle.picture.specs.Plan.{seen_before, plan_of, Drawable, address_in, place_in, colour_in, refuses_in, end_in}
use Rattle.picture.specs.declared.plan.Plan.{Plan}
use Rattle.picture.proofs.span.Spans.{stored_all, stored_both}

-- a pixel of the build's depths is a byte
bits_small : (m : List ℕ) (from n : ℕ) → bits_at m from n < 2 ^ n
unfolding bits_at
bits_small m from zero = omega arith
bits_small m from (suc n) = rw pow-suc (omega (arith, bits_small m (suc from) n))

pixel_small : (control : ℕ) (m : List ℕ) (i : ℕ) → pixel_shown control m i < 256
unfolding pixel_shown
pixel_small control m i = go (transferring control)
  where
    go : (t : Bool) → cond t (bits_at m (i * pixel_bits control) (pixel_bits control)) 0 < 256
    go true = omega (arith, bits_small m (i * pixel_bits control) (pixel_bits control), pow_mono {i = pixel_bits control} {j = 8} (pow_mono {i = depth control} {j = 3} (omega arith)))
    go false = omega arith

-- the format is the control word's
format : (r : Registers) → (screen r).interlaced ≡ interlaced r.control
unfolding screen_of
format r = refl

-- one field
module _ (r : Registers) (second : Bool) (m : List ℕ) where
  end_link : (asked : Bool) → end_in (plan_of r second) asked (sums_to r second m (ticks_seen r second)) ≡ field_end r second m asked
  unfolding end_in plan_of address_in field_end row_address asks screen_of
  end_link asked = refl

  -- what the field's colours are looked up through
  abbrev drawn_through : Through
  drawn_through = through r.control r.position (masked_palette r.palette r.mask) r.store r.colours m

  -- the mask applied to the palette once is the mask applied to each pixel
  colour_same : (i : ℕ) → colour_in (plan_of r second) drawn_through i ≡ (dot_of r second m (address_at r second (i / 4)) (i / 4) (i % 4)).colour
  unfolding colour_in colour_through plan_of place_in address_in dot_of dot_at place row_address
  colour_same i =
      ap (λ (below : ℕ). over r.colours (code_over r.control r.position r.store (4 * (in_lines r second (i / 4) % (screen r).display.0) + i % 4) (in_lines r second (i / 4) / (screen r).display.0)) below)
      (masked_palette_entry r.palette r.mask _ (pixel_small r.control m (place r (address_at r second (i / 4)) (i / 4) (i % 4))))

  colour_link : forced_blank r.control ≡ false → (i : ℕ) → colour_in (plan_of r second) drawn_through i ≡ (dot_for r second m i).colour
  unfolding dot_for
  colour_link e i = colour_same i ∙ simp e

  -- forced blank: black dots
  module _ (e : forced_blank r.control ≡ true) where
    black_link : (i : ℕ) → dot_for r second m i ≡ black
    unfolding dot_for
    black_link i = simp e

    black_bytes : (from n : ℕ) → bytes_of (colours_of (run (dot_for r second m) from n)) ≡ replicate (3 * n) 0
    unfolding bytes_of run
    black_bytes from zero = refl
    black_bytes from (suc n) =
        let three : 3 * suc n ≡ suc (suc (suc (3 * n))) = omega arith in
        rw (black_link from, three, black_bytes (suc from) n)

  module _ (p : Plan) (ep : p ≡ plan_of r second) where
    visible_link : p.visible ≡ ticks_seen r second
    unfolding plan_of
    visible_link = rw ep

    before_link : p.before ≡ seen_before r second
    unfolding plan_of
    before_link = rw ep

    pub field_plan : (size : ℕ) → 12 * (seen_before r second + ticks_seen r second) ≤ size → (p ≡ plan_of r p.second) × (12 * (p.before + p.visible) ≤ size)
    unfolding plan_of
    field_plan size h = (rw ep, rw (visible_link, before_link) h)

    pub field_refuses : (far : Bool) → far ≡ refuses_in p m → far ≡ field_refuses20 r m second
    unfolding refuses_in plan_of place_in address_in field_refuses20 place_at place row_address
    field_refuses far e = rw ep at e

    -- what is to be shown of a field painted
    abbrev Field : Bool → List ℕ → List ℕ → Sums → Type 0
    Field f before after s = (s ≡ sums_to r f m p.visible) × (after ≡ sets before (12 * p.before) (bytes_of (colours_of (field_dots r m f))))

    pub field_black : forced_blank r.control ≡ true → (s : Sums) (before after : List ℕ) → s ≡ none → after ≡ sets before (12 * p.before) (replicate (12 * (p.before + p.visible) - 12 * p.before) 0) → Field second before after s
    unfolding sums_to
    field_black e s before after z a =
        let n : 12 * (p.before + p.visible) - 12 * p.before ≡ 3 * pixels_seen r second = omega (arith, visible_link) in
        (z ∙ simp e, a ∙ rw (n, ← (black_bytes e 0 (pixels_seen r second))))

    pub field_lit : forced_blank r.control ≡ false → (table : List ℕ) → table ≡ masked_palette r.palette r.mask → {before after : List ℕ} {s : Sums} →
        Painted before (12 * p.before) none (run (colour_in p (through p.control p.position table r.store r.colours m)) 0 (4 * p.visible)) after s → Field second before after s
    unfolding sums_to plan_of
    field_lit e table et {before} {after} {s} d =
        let same : run (colour_in (plan_of r second) drawn_through) 0 (pixels_seen r second) ≡ colours_of (field_dots r m second) =
        run_same (colour_in (plan_of r second) drawn_through) (λ i. (dot_for r second m i).colour) 0 0 (pixels_seen r second) (λ k l. colour_link e (0 + k)) ∙ sym (colours_run (dot_for r second m) 0 (pixels_seen r second)) in
        let q : Painted before (12 * seen_before r second) none (colours_of (field_dots r m second)) after s = rw same at (rw (ep, et) at d) in
        (q.added ∙ rw visible_link (simp e), q.stored ∙ rw before_link)

    pub field_drawn : (asked : Bool) (n : Generator) (s : Sums) (before after : List ℕ) → Field p.second before after s → n ≡ end_in p asked s →
        (n ≡ field_end r second m asked) × (after ≡ sets before (12 * seen_before r second) (bytes_of (colours_of (field_dots r m second))))
    unfolding plan_of
    field_drawn asked n s before after f e =
        let same : p.second ≡ second = rw ep in
        let here : Field second before after s = rw same at f in
        (e ∙ rw (here.0, visible_link, ep) (end_link asked), here.1 ∙ rw before_link)

-- refusal 20 of a frame, by its format
module _ (r : Registers) (m : List ℕ) (t : Bool) (et : t ≡ interlaced r.control) (one : Bool) (eo : one ≡ field_refuses20 r m false) where
  pub refuses_one : t ≡ false → one ≡ picture_refuses20 r m
  refuses_one e = rw (format r ∙ sym et ∙ e, or-false) eo

  pub refuses_two : t ≡ true → (two : Bool) → two ≡ field_refuses20 r m true → (one || two) ≡ picture_refuses20 r m
  refuses_two e two ew = rw (format r ∙ sym et ∙ e, eo, ew)

-- both fields in one buffer
module _ (r : Registers) (m : List ℕ) (ok : Drawable r) (b : List ℕ) (size : length b ≡ 3 * frame_pixels (screen r)) where
  abbrev part : Bool → List Dot
  part = field_dots r m

  seen : (second : Bool) → length (part second) ≡ pixels_seen r second
  seen second = run_length (dot_for r second m) 0 (pixels_seen r second)

  all : length b ≡ 3 * length (frame_dots r m)
  all = size ∙ ap (λ (n : ℕ). 3 * n) (sym (frame_pixels_lem r ok.accepted (λ second. dot_for r second m)))

  pub fits_first : 12 * (seen_before r false + ticks_seen r false) ≤ length b
  fits_first = omega (arith, all, length-append (part false) (cond (screen r).interlaced (part true) []), seen false)

  module _ (t : Bool) (et : t ≡ interlaced r.control) where
    one : t ≡ false → frame_dots r m ≡ part false
    one e = in_fields_one r part (format r ∙ sym et ∙ e)

    two : t ≡ true → frame_dots r m ≡ part false ++ part true
    two e = in_fields_two r part (format r ∙ sym et ∙ e)

    pub fits_second : t ≡ true → 12 * (seen_before r true + ticks_seen r true) ≤ length b
    fits_second e = omega (arith, rw (two e) at all, length-append (part false) (part true), seen false, seen true)

    module _ (asked : Bool) (first : Generator) (b₁ : List ℕ) (ef : first ≡ field_end r false m asked) (eb : b₁ ≡ sets b (12 * seen_before r false) (bytes_of (colours_of (part false)))) where
      between : first ≡ field_end r false m false
      between = ef ∙ first_end r ok.accepted m asked false

      pub frame_one : t ≡ false → (first ≡ frame_end r m) × (b₁ ≡ bytes_of (colours_of (frame_dots r m)))
      unfolding frame_end
      frame_one e = (between ∙ sym (simp (format r ∙ sym et ∙ e)), rw (one e) (eb ∙ stored_all b (colours_of (part false)) (rw length-map (rw (one e) at all))))

      pub frame_two : t ≡ true → (next : Generator) (b₂ : List ℕ) → next ≡ field_end r true m first.asked → b₂ ≡ sets b₁ (12 * seen_before r true) (bytes_of (colours_of (part true))) →
          (next ≡ frame_end r m) × (b₂ ≡ bytes_of (colours_of (frame_dots r m)))
      unfolding frame_end
      frame_two e next b₂ en eb₂ = (
        en ∙ ap (λ (g : Generator). field_end r true m g.asked) between ∙ sym (simp (format r ∙ sym et ∙ e)),
        rw (two e) (rw map-append (eb₂ ∙ rw eb (stored_both b (colours_of (part false)) (colours_of (part true)) (12 * ticks_seen r false) (rw length-map (omega (arith, seen false))) (rw (← map-append, length-map) (rw (two e) at all))))),
      )

four : (a b c d : Bool) → (not a || not (not b && (c && d))) ≡ false → (a ≡ true) × (b ≡ false) × (c ≡ true) × (d ≡ true)
four true false true true e = (refl, refl, refl, refl)
four true false true false e = absurd (true≢false e)
four true false false d e = absurd (true≢false e)
four true true c d e = absurd (true≢false e)
four false b c d e = absurd (true≢false e)

module _ (r : Registers) (g : Generator) (sound : Sound r g) (begins : refuses22 r g ≡ false) where
  abbrev begun : (running r.control ≡ true) × (g.second ≡ false) × (eqb g.half.0 0 ≡ true) × (eqb g.at.0 0 ≡ true)
  begun = four (running r.control) g.second (eqb g.half.0 0) (eqb g.at.0 0) begins

  pub drawable : Drawable r
  drawable = record { accepted = sound.accepted begun.0; top_in = top_used_in r sound.widths }

  ticks : (m : List ℕ) → Whole r m g
  ticks m = whole r m g sound begun.0 (record { field = begun.1; half = eqb-true _ _ begun.2; at = eqb-true _ _ begun.3 })

-- the refusal: 22, and the later two
module _ (r : Registers) (m : List ℕ) (g : Generator) (size : ℕ) where
  pub refusal_22 : refuses22 r g ≡ true → 22 ≡ picture_refusal r m g size
  unfolding picture_refusal
  refusal_22 early = simp early

  pub refusal_later : Sound r g → refuses22 r g ≡ false → (pixels whole : ℕ) → pixels ≡ frame_pixels (screen r) → whole ≡ capped (bytes_for pixels) → (far : Bool) → far ≡ picture_refuses20 r m → (later n : ℕ) → later ≡ cond far 20 0 → n ≡ cond (not (eqb size whole)) 21 later → n ≡ picture_refusal r m g size
  unfolding picture_refusal
  refusal_later sound begins pixels whole ep ew far ef later n el en =
      let held : capped (bytes_for (frame_pixels (screen r))) ≡ 3 * frame_pixels (screen r) = omega (arith, visible_fit (screen r) (narrow (screen r) (drawable r g sound begins).accepted.bounded)) in
      simp (begins, (ticks r g sound begins m).refusal) (en ∙ rw (el, ef, ew, ep, held))

-- no refusal: what that says
record Free (r : Registers) (m : List ℕ) (g : Generator) (size : ℕ) : Type 0 where
  begins : refuses22 r g ≡ false
  fits : size ≡ 3 * frame_pixels (screen r)
  near : refused_within r m g (frame_ticks (screen r)) ≡ false

free : (r : Registers) (m : List ℕ) (g : Generator) (size : ℕ) → picture_refusal r m g size ≡ 0 → Free r m g size
unfolding picture_refusal
free r m g size = go (refuses22 r g) refl (eqb size (3 * frame_pixels (screen r))) refl (refused_within r m g (frame_ticks (screen r))) refl
  where
    go : (a : Bool) → refuses22 r g ≡ a → (b : Bool) → eqb size (3 * frame_pixels (screen r)) ≡ b → (c : Bool) → refused_within r m g (frame_ticks (screen r)) ≡ c → ◌≡◌ {A = ℕ} (cond a 22 (cond (not b) 21 (cond c 20 0))) 0 → Free r m g size
    go false ea true eb false ec e = record { begins = ea; fits = eqb-true _ _ eb; near = ec }
    go false ea true eb true ec e = absurd (omega arith)
    go false ea false eb c ec e = absurd (omega arith)
    go true ea b eb c ec e = absurd (omega arith)

module _ (r : Registers) (m : List ℕ) (g : Generator) (before : List ℕ) (n : ℕ) (en : n ≡ picture_refusal r m g (length before)) where
  pub refused_whole : (n ≡ 0 → ⊥) → (record { refusal = n; next = g } ≡ drawn_of r m g (length before)) × (before ≡ buffer_of r m g before)
  unfolding drawn_of buffer_of
  refused_whole z =
      let no = ne_eqb (picture_refusal r m g (length before)) 0 (λ e. z (en ∙ e)) in
      (rw en (simp no), simp no)

  module _ (sound : Sound r g) (z : n ≡ 0) where
    abbrev clear : Free r m g (length before)
    clear = free r m g (length before) (sym en ∙ z)

    pub drawable_free : Drawable r
    drawable_free = drawable r g sound clear.begins

    pub fits_free : length before ≡ 3 * frame_pixels (screen r)
    fits_free = clear.fits

    pub drawn_whole : (next : Generator) (after' : List ℕ) → next ≡ frame_end r m → after' ≡ bytes_of (colours_of (frame_dots r m)) →
        (record { refusal = 0; next = next } ≡ drawn_of r m g (length before)) × (after' ≡ buffer_of r m g before)
    unfolding drawn_of buffer_of
    drawn_whole next after' ee ea =
        let w = ticks r g sound clear.begins m in
        let near = sym w.refusal ∙ clear.near in
        let zero = sym en ∙ z in
        (simp (zero, ee ∙ sym (w.end near)), simp zero (ea ∙ ap (λ (l : List Dot). bytes_of (colours_of l)) (sym (w.colours near))))
