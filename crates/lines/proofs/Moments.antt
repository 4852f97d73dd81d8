-- What the code finds of a place is its moment, and a screen that was read from registers has counts of 32 bits. Assumes nothing.
use Prim.Native.Nat.{ℕ, ◌+◌, ◌-◌, ◌*◌, ◌^◌, ◌≤◌}
use mathlib.Core.Bool.{Bool, true, false, not, cond, ◌&&◌}
use mathlib.Core.List.{List}
use mathlib.Core.Path.{◌≡◌, refl, subst}
use native.Mathlib.Nat.{mul-le-mul}
use native.Mathlib.Omega.{arith}
use borrow.Author.Tests.{ltb-true, ltb-false, le-ltb, le-leb, lt-leb}
use mir.Syntax.{w32}
use mir.Val.{Fits}
use lib.Dec.{ltb, leb, eqb}
use lib.ListN.{get_or}
use Rattle.units.specs.Parameters.{screen_of, in_field, half_ticks, display_from, halves_to_vblank, halves_to_vdisplay, halves_in_field}
use Rattle.units.specs.declared.Screen.{Screen}
use Rattle.lines.specs.Narrow.{Narrow}
use Rattle.lines.specs.Lines.{period, ends_of, is_vsync, is_vdisplay, line_from, line_of, in_line, visible, column_of, lines_above, low_in, opens, closes, next_second, next_half, next_at, moment_of}
use Rattle.lines.specs.declared.Ends.{Ends}
use Rattle.lines.specs.declared.Period.{Period}
use Rattle.lines.specs.declared.Period.TheVariants.{PreEqualise, VSync, PostEqualise, VBlank, VDisplay}

-- registers fit 32 bits, and so does each count of the screen that is made of them
pub narrow : (params : List ℕ) (interlaced second : Bool) → ((i : ℕ) → Fits w32 (get_or params i 0)) → (s : Screen) → s ≡ in_field second (screen_of params interlaced) → Narrow s
unfolding screen_of
narrow params interlaced second f s e =
    rw e
    (record {
      halfsync = (f 0).fits;
      backporch = (f 1).fits;
      display = (f 2).fits;
      vsync = (f 5).fits;
      vpreequalise = (f 6).fits;
      vpostequalise = (f 7).fits;
      vblank = (f 8).fits;
      vdisplay = (f 9).fits;
      linetime = (f 10).fits;
    })

-- two of the periods by their ends
module _ (s : Screen) (half : ℕ) where
  in_vsync : (leb s.vpreequalise.0 half && ltb half (s.vpreequalise.0 + s.vsync.0)) ≡ is_vsync (period s half)
  unfolding period
  in_vsync = go (ltb half s.vpreequalise.0) refl (ltb half (s.vpreequalise.0 + s.vsync.0)) (ltb half (halves_to_vblank s)) (ltb half (halves_to_vdisplay s))
    where
      go : (a : Bool) → ltb half s.vpreequalise.0 ≡ a → (b c d : Bool) → (leb s.vpreequalise.0 half && b) ≡ is_vsync (cond a PreEqualise (cond b VSync (cond c PostEqualise (cond d VBlank VDisplay))))
      go true e b c d = simp (lt-leb s.vpreequalise.0 half (ltb-true _ _ e))
      go false e true c d = simp (le-leb s.vpreequalise.0 half (ltb-false _ _ e))
      go false e false true d = simp (le-leb s.vpreequalise.0 half (ltb-false _ _ e))
      go false e false false true = simp (le-leb s.vpreequalise.0 half (ltb-false _ _ e))
      go false e false false false = simp (le-leb s.vpreequalise.0 half (ltb-false _ _ e))

  pub in_vdisplay : leb (halves_to_vdisplay s) half ≡ is_vdisplay (period s half)
  unfolding period
  in_vdisplay = go (ltb half s.vpreequalise.0) refl (ltb half (s.vpreequalise.0 + s.vsync.0)) refl (ltb half (halves_to_vblank s)) refl (ltb half (halves_to_vdisplay s)) refl
    where
      go : (a : Bool) → ltb half s.vpreequalise.0 ≡ a → (b : Bool) → ltb half (s.vpreequalise.0 + s.vsync.0) ≡ b → (c : Bool) → ltb half (halves_to_vblank s) ≡ c → (d : Bool) → ltb half (halves_to_vdisplay s) ≡ d →
          leb (halves_to_vdisplay s) half ≡ is_vdisplay (cond a PreEqualise (cond b VSync (cond c PostEqualise (cond d VBlank VDisplay))))
      go true ea b eb c ec d ed = lt-leb (halves_to_vdisplay s) half (omega (arith, ltb-true half s.vpreequalise.0 ea))
      go false ea true eb c ec d ed = lt-leb (halves_to_vdisplay s) half (omega (arith, ltb-true half (s.vpreequalise.0 + s.vsync.0) eb))
      go false ea false eb true ec d ed = lt-leb (halves_to_vdisplay s) half (omega (arith, ltb-true half (halves_to_vblank s) ec))
      go false ea false eb false ec true ed = lt-leb (halves_to_vdisplay s) half (ltb-true _ _ ed)
      go false ea false eb false ec false ed = le-leb (halves_to_vdisplay s) half (ltb-false _ _ ed)

  -- from the code's ends: the period, and in full lines the sync, whatever the period
  module _ (ends : Ends) (ends_are : ends ≡ ends_of s) where
    pub by_ends : (p : Period) → p ≡ cond (ltb half ends.pre) PreEqualise (cond (ltb half ends.sync) VSync (cond (ltb half ends.post) PostEqualise (cond (ltb half ends.blank) VBlank VDisplay))) → p ≡ period s half
    unfolding period
    by_ends p e = rw (e, ends_are)

    pub full_low : ends.post ≤ half → (plain : Bool) (halfsync broadpulse at tick : ℕ) → ltb tick (2 * halfsync) ≡ low_in plain halfsync broadpulse (period s half) at tick
    unfolding period
    full_low e plain halfsync broadpulse at tick =
        let le : halves_to_vblank s ≤ half = subst (λ (ends : Ends). ends.post ≤ half) ends_are e in
        rw (le-ltb half s.vpreequalise.0 (omega arith), le-ltb half (s.vpreequalise.0 + s.vsync.0) (omega arith), le-ltb half (halves_to_vblank s) le) (go (ltb half (halves_to_vdisplay s)))
      where
        go : (d : Bool) → ltb tick (2 * halfsync) ≡ low_in plain halfsync broadpulse (cond d VBlank VDisplay) at tick
        go true = refl
        go false = refl

-- a place's moment, test by test
pub by_tests : (s : Screen) (plain : Bool) (half at : ℕ) → record {
  vsyncing = leb s.vpreequalise.0 half && ltb half (s.vpreequalise.0 + s.vsync.0);
  vdisplaying = leb (halves_to_vdisplay s) half;
  visible = leb (halves_to_vdisplay s) half && (leb (display_from s) (in_line s half at) && ltb (in_line s half at) (display_from s + s.display.0));
  low = low_in plain s.halfsync.0 s.broadpulse.0 (period s half) at (in_line s half at);
  opens = eqb half (halves_to_vdisplay s) && eqb at 0;
  closes = leb (halves_in_field s) (half + 1) && leb (half_ticks s) (at + 1);
  column = in_line s half at - display_from s;
  line = lines_above s half;
  second = cond (leb (halves_in_field s) (half + 1) && leb (half_ticks s) (at + 1)) (s.interlaced && not s.second) s.second;
  half = cond (ltb (at + 1) (half_ticks s)) half (cond (ltb (half + 1) (halves_in_field s)) (half + 1) 0);
  at = cond (ltb (at + 1) (half_ticks s)) (at + 1) 0;
} ≡ moment_of s plain half at
unfolding visible column_of opens closes next_second next_half next_at moment_of
by_tests s plain half at = rw (in_vsync s half, in_vdisplay s half)

module _ (s : Screen) (narrow : Narrow s) where
  -- what is added to a half line's number is at most five counts
  pub origin_most : (origin : ℕ) → origin ≡ line_from s → origin ≤ 5 * 0xFFFFFFFF
  unfolding line_from
  origin_most origin e = rw e (go s.interlaced s.second)
    where
      go : (a b : Bool) → cond a (cond b (halves_in_field s) 0) (halves_to_vblank s) ≤ 5 * 0xFFFFFFFF
      go true true = omega (arith, narrow.vpreequalise, narrow.vsync, narrow.vpostequalise, narrow.vblank, narrow.vdisplay)
      go true false = omega arith
      go false b = omega (arith, narrow.vpreequalise, narrow.vsync, narrow.vpostequalise)

  -- Display of all the lines of a field
  pub lines_most : (halves : ℕ) → halves ≡ halves_in_field s → (lines : ℕ) → lines ≡ lines_above s halves → lines * s.display.0 ≤ 2 ^ 31 * 0xFFFFFFFF
  unfolding lines_above line_of
  lines_most halves eh lines el = mul-le-mul {n₁ = lines} {m₁ = s.display.0} {n₂ = 2 ^ 31} {m₂ = 0xFFFFFFFF} (omega (arith, el, eh, narrow.vdisplay)) (omega (arith, narrow.display))
