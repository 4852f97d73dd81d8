-- An interlaced picture is woven as a tube shows it: a field's pixels are counted by the weave as its ticks count them. Assumes nothing.
use Prim.Native.Nat.{ℕ, ◌+◌, ◌-◌, ◌*◌, ◌/◌, ◌%◌, ◌≤◌, ◌<◌, min}
use mathlib.Core.Bool.{Bool, true, false, cond}
use mathlib.Core.Path.{◌≡◌, refl, sym, subst}
use native.Mathlib.Omega.{arith}
use lib.ListN.{get_or}
use borrow.Author.Tests.{lt-ltb, le-ltb, le-leb, eq-eqb}
use Rattle.control.specs.Control.{running, interlaced}
use Rattle.units.specs.Parameters.{screen_of, in_field, half_ticks, display_from}
use Rattle.units.specs.declared.Screen.{Screen}
use Rattle.lines.specs.Lines.{lead}
use Rattle.screen.specs.Limits.{Accepted}
use Rattle.registers.specs.declared.Registers.{Registers}
use Rattle.generator.specs.Rows.{screen}
use Rattle.generator.specs.Sound.{Sound}
use Rattle.generator.proofs.VisibleBefore.{begins_by_field, lead_first, lead_second, first_visible, second_visible}
use Rattle.machine.specs.declared.Machine.{Machine}
use Rattle.frame.specs.Frame.{pixels_seen}
use Rattle.weave.specs.declared.Weave.{Weave}
use Rattle.weave.specs.Weave.{is_weave, pixels_of, is_row, byte_at, byte_of}
use Rattle.weave.specs.Once.{Place, in_row, place_of}
use Rattle.weave.proofs.Once.{both_fields, once}
use Rattle.calls.specs.Calls.{size_of}
use Rattle.calls.specs.Woven.{weave_of, number_of, tube_at, Woven}

-- a pixel of each field, where the first begins with a first half
module _ (width lines half : ℕ) where
  abbrev plainly : Weave
  plainly = record { width = width; lines = lines; half = half; late = false }

  place_first : (i : ℕ) → i < pixels_of plainly false → place_of plainly i ≡ in_row false (i / width) (i % width)
  unfolding place_of
  place_first i h =
      let same : i - 0 + 0 ≡ i = omega arith in
      rw (lt-ltb i (pixels_of plainly false) h, same)

  place_second : (i : ℕ) → place_of plainly (pixels_of plainly false + i) ≡ in_row true ((i + half) / width) ((i + half) % width)
  unfolding place_of
  place_second i =
      let same : pixels_of plainly false + i - pixels_of plainly false + half ≡ i + half = omega arith in
      rw (le-ltb (pixels_of plainly false + i) (pixels_of plainly false) (omega arith), same)

module _ (r : Registers) (ok : Accepted r.control (screen r)) (n : (screen r).interlaced ≡ true) where
  abbrev s : Screen
  s = screen r

  abbrev w : Weave
  w = plainly (4 * s.display.0) s.vdisplay.0 (4 * lead (in_field true s))

  before : lead (in_field true s) ≡ min s.display.0 (half_ticks s - display_from s)
  before = lead_second r.control s ok n

  some_before : (0 < lead (in_field true s)) × (lead (in_field true s) ≤ s.display.0)
  some_before = rw before (omega (arith, ok.half_holds, ok.bounded.display.low), omega arith)

  first_pixels : pixels_seen r false ≡ pixels_of w false
  first_pixels = rw (first_visible r.control s ok n, before) (omega arith)

  second_pixels : pixels_seen r true ≡ pixels_of w true
  second_pixels = rw (second_visible r.control s ok n, before) (omega arith)

  is_weave_lem : is_weave w ≡ true
  is_weave_lem = rw (le-leb (4 * lead (in_field true s)) (4 * s.display.0) (omega (arith, some_before)), eq-eqb (s.vdisplay.0 % 2) 1 (ok.display_odd n))

  pixels : w.lines * w.width ≡ pixels_seen r false + pixels_seen r true
  pixels = rw (first_pixels, second_pixels) (omega (arith, both_fields w is_weave_lem))

  placed : (second : Bool) (i : ℕ) → i < pixels_seen r second → place_of w (number_of r second i) ≡ tube_at r second i
  placed false i h =
      let along : i + 4 * lead (in_field false s) ≡ i = omega (arith, lead_first r.control s ok n) in
      rw along (place_first _ _ _ i (rw first_pixels at h))
  placed true i h = rw first_pixels (place_second _ _ _ i)

  fits : (row size : ℕ) → row ≤ w.lines → 49140 ≤ size → is_row w row size ≡ true
  fits row size h k =
      let display = ok.bounded.display.high in
      rw (is_weave_lem, lt-ltb w.width 0x10000 (omega (arith, display)), lt-ltb w.lines 0x10000 (omega (arith, ok.bounded.vdisplay.high)), le-leb row w.lines h, le-leb w.width (size / 3) (omega (arith, display)))

  in_picture : (second : Bool) (i : ℕ) → i < pixels_seen r second → number_of r second i < w.lines * w.width
  in_picture false i h = omega (arith, pixels)
  in_picture true i h = omega (arith, pixels)

  in_fields : Woven r w
  in_fields =
      record {
        halves = begins_by_field r.control s ok n;
        weave = is_weave_lem;
        some = omega (arith, some_before);
        width = refl;
        lines = refl;
        pixels = pixels;
        placed = placed;
        rows = fits;
        once = once w is_weave_lem;
        shown = λ picture second i channel h c. subst (λ (at : Place). byte_at w picture (byte_of w at.row at.column channel) ≡ get_or picture (3 * number_of r second i + channel) 0) (placed second i h) ((once w is_weave_lem).shown picture (number_of r second i) channel (in_picture second i h) c);
      }

-- the weave of a picture's size, where both tests of its format hold
of_size : (b t : Bool) → b ≡ true → t ≡ true → (width v half : ℕ) → weave_of (record { width = width; height = cond b (cond t v (v / 2) + 1) (cond t v (v / 2)); half = cond b half 0 }) ≡ plainly width v half
of_size b t e f width v half =
    let less : v + 1 - 1 ≡ v = omega arith in
    rw (e, f) (rw less)

is_interlaced : (r : Registers) → interlaced r.control ≡ true → (screen r).interlaced ≡ true
unfolding screen_of
is_interlaced r e = e

-- AN INTERLACED PICTURE IS WOVEN AS A TUBE SHOWS IT, of every machine that may be had and runs
pub woven : (m : Machine) → Sound m.regs m.generator → running m.regs.control ≡ true → interlaced m.regs.control ≡ true → Woven m.regs (weave_of (size_of m))
woven m sound runs n =
    let format = is_interlaced m.regs n in
    subst (λ (v : Weave). Woven m.regs v) (sym (of_size _ _ n format _ _ _)) (in_fields m.regs (sound.accepted runs) format)
