-- Two palettes that differ at an entry shown under a transparent cursor give ticks that differ: the pixel's own colour does. Assumes nothing.
use Prim.Native.Nat.{ℕ, ◌+◌, ◌-◌, ◌<◌}
use mathlib.Core.Bool.{Bool, true, false, ◌&&◌}
use mathlib.Core.List.{List}
use mathlib.Core.Path.{◌≡◌, refl, sym, ap, ◌∙◌}
use native.Mathlib.Nat.{zero-add}
use native.Mathlib.Omega.{arith}
use borrow.Author.Tests.{eq-eqb, not-false, le-leb, lt-leb}
use lib.ListN.{get_or, set}
use Rattle.base.specs.Count.{run}
use Rattle.base.proofs.Run.{run_entry}
use Rattle.signals.specs.Signals.{black}
use Rattle.signals.specs.declared.Dot.{Dot}
use Rattle.signals.specs.declared.Signals.{Signals}
use Rattle.registers.specs.Map.{place_of}
use Rattle.registers.specs.File.{store_in}
use Rattle.registers.specs.declared.map.Place.TheVariants.{Palette}
use Rattle.colour.specs.Colour.{masked_colour}
use Rattle.colour.proofs.Laws.{palettes_agree}
use Rattle.pixel.specs.Dot.{dot_at}
use Rattle.generator.specs.Rows.{visible_at, shows, top_used, taken, transfer_at, held_address, place}
use Rattle.generator.specs.Tick.{dot_of, dots, refuses20, signals_with, tick_refusal, tick_of}
use Rattle.machine.specs.Rules.{stored, written, advanced}
use Rattle.machine.specs.declared.Machine.{Machine}
use Rattle.machine.proofs.Theorems.{tick_number}
use Rattle.demands.specs.Demand2.{pixel_next, code_next, AgreeAt, with_palette}

-- an accepted palette write is one of its entry
palette_place : (k : ℕ) → k < 256 → place_of (0x100 + k) ≡ Palette k
unfolding place_of
palette_place k l =
    let e : 0x100 + k - 0x100 ≡ k = omega arith in
    simp (
      lt-leb (0x100 + k) 0x02E (omega arith),
      lt-leb (0x100 + k) 0x040 (omega arith),
      lt-leb (0x100 + k) 0x060 (omega arith),
      lt-leb (0x100 + k) 0x080 (omega arith),
      lt-leb (0x100 + k) 0x0A3 (omega arith),
      lt-leb (0x100 + k) 0x0C2 (omega arith),
      lt-leb (0x100 + k) 0x0C7 (omega arith),
      and_false,
      le-leb 0x100 (0x100 + k) (omega arith),
      le-leb (0x100 + k) 0x1FF (omega arith),
      e,
    )
  where
    and_false : (t : Bool) → (t && false) ≡ false
    and_false true = refl
    and_false false = refl

pub palette_written : (m : Machine) (k v : ℕ) → k < 256 → (written m (0x100 + k) v).refusal ≡ 0 → (written m (0x100 + k) v).machine ≡ with_palette m (set m.regs.palette k v)
unfolding written stored store_in
palette_written m k v l e = simp (eq-eqb _ 0 e) (rw (palette_place k l))

module _ (m : Machine) (memory : List ℕ) where
  -- the four pixels of a tick that is answered and shows
  shown_dots : tick_refusal m.regs memory m.generator ≡ 0 → shows m.regs m.generator ≡ true →
      (advanced m memory).signals.dots ≡ run (dot_of m.regs m.generator.second memory (held_address m.regs m.generator) m.generator.seen.0) 0 4
  unfolding advanced tick_of dots signals_with
  shown_dots e s = simp (eq-eqb _ 0 e, s)

  answered_number : (advanced m memory).refusal ≡ 0 → tick_refusal m.regs memory m.generator ≡ 0
  unfolding advanced
  answered_number e = sym (tick_number m.regs memory m.generator) ∙ e

  unblank_shows : (advanced m memory).refusal ≡ 0 → (advanced m memory).signals.blank ≡ false → shows m.regs m.generator ≡ true
  unfolding advanced tick_of signals_with
  unblank_shows e b = not-false (shows m.regs m.generator) (simp (eq-eqb _ 0 (answered_number e)) at b)

  -- its colour is the palette's, where the cursor is transparent
  pixel_colour : (k : ℕ) → code_next m k ≡ 0 →
      (dot_of m.regs m.generator.second memory (held_address m.regs m.generator) m.generator.seen.0 k).colour ≡ masked_colour m.regs.palette m.regs.mask (pixel_next m memory k)
  unfolding dot_of dot_at
  pixel_colour k c = rw c

  pixel_at : (k : ℕ) → k < 4 → tick_refusal m.regs memory m.generator ≡ 0 → shows m.regs m.generator ≡ true → code_next m k ≡ 0 →
      (get_or (advanced m memory).signals.dots k black).colour ≡ masked_colour m.regs.palette m.regs.mask (pixel_next m memory k)
  pixel_at k l e s c =
      ap (λ (four : List Dot). (get_or four k black).colour) (shown_dots e s)
      ∙ ap (λ (d : Dot). d.colour) (run_entry (dot_of m.regs m.generator.second memory (held_address m.regs m.generator) m.generator.seen.0) 0 4 k black l)
      ∙ rw zero-add (pixel_colour k c)

-- what does not ask the palette
module _ (m : Machine) (palette memory : List ℕ) where
  abbrev n : Machine
  n = with_palette m palette

  same_shows : shows n.regs m.generator ≡ shows m.regs m.generator
  unfolding shows visible_at
  same_shows = refl

  same_refusal : tick_refusal n.regs memory m.generator ≡ tick_refusal m.regs memory m.generator
  unfolding tick_refusal refuses20 shows visible_at held_address transfer_at taken top_used place
  same_refusal = refl

  same_pixel : (k : ℕ) → pixel_next n memory k ≡ pixel_next m memory k
  unfolding held_address transfer_at taken top_used place visible_at
  same_pixel k = refl

  -- TWO PALETTES THAT DIFFER WHERE A PIXEL SHOWS GIVE TICKS THAT DIFFER
  pub palettes_differ : (k : ℕ) → k < 4 → (advanced m memory).refusal ≡ 0 → (advanced m memory).signals.blank ≡ false → code_next m k ≡ 0 →
      (AgreeAt m.regs.palette palette m.regs.mask (pixel_next m memory k) → ⊥) → (advanced n memory).signals ≡ (advanced m memory).signals → ⊥
  palettes_differ k l e b c differ same =
      let r = answered_number m memory e in
      let s = unblank_shows m memory e b in
      let one : masked_colour palette m.regs.mask (pixel_next n memory k) ≡ masked_colour m.regs.palette m.regs.mask (pixel_next m memory k)
      = sym (pixel_at n memory k l (same_refusal ∙ r) (same_shows ∙ s) c)
      ∙ ap (λ (x : Signals). (get_or x.dots k black).colour) same
      ∙ pixel_at m memory k l r s c in
      let agree = palettes_agree palette m.regs.palette m.regs.mask (pixel_next m memory k) (rw (same_pixel k) at one) in
      differ (record { reds = agree.0; greens = agree.1; blues = agree.2 })
