-- A screen may start exactly when none of 10 to 18 holds, and what callers know of one that may. Assumes nothing.
use Prim.Native.Nat.{ℕ, ◌+◌, ◌%◌}
use mathlib.Core.Path.{◌≡◌, refl}
use mathlib.Core.Bool.{Bool, true, false, not, ◌&&◌, ◌||◌, true≢false}
use native.Mathlib.Omega.{arith}
use lib.Dec.{ltb, eqb}
use borrow.Author.Tests.{ltb-true, ltb-false, eqb-true, eqb-false, not-false, lt-ltb, le-ltb, eq-eqb, ne_eqb}
use Rattle.screen.specs.Range.{most, out_of_range, refuses10}
use Rattle.screen.specs.Limits.{refuses11, refuses12, refuses13, refuses14, refuses15, refuses16, refuses17, refuses18, later_limit, limit_of, Within, Bounded, Accepted}
use Rattle.units.specs.Parameters.{in_field, halves_in_field}
use Rattle.units.specs.declared.Screen.{Screen}
use Rattle.base.proofs.Bools.{neither_holds, link_passed}

neither : (a b : Bool) → a ≡ false → b ≡ false → (a || b) ≡ false
neither false b p q = q
neither true b p q = absurd (true≢false p)

within : (n : ℕ) → out_of_range n ≡ false → Within most n
within n e =
    let p = neither_holds (eqb n 0) (ltb most n) e in
    let zero = eqb-false n 0 p.0 in
    record { low = omega arith; high = ltb-false most n p.1 }

on : (n : ℕ) → Within most n → out_of_range n ≡ false
on n w = neither (eqb n 0) (ltb most n) (ne_eqb n 0 (λ z. omega arith)) (le-ltb most n w.high)

-- where 10 does not hold, every parameter but LineStart is from 1 up to the largest, and the other way round
pub bounded : (s : Screen) → refuses10 s ≡ false → Bounded most s
bounded s e =
    let p12 = neither_holds _ (out_of_range s.transferdelay.0) e in
    let p11 = neither_holds _ (out_of_range s.meminit.0) p12.0 in
    let p10 = neither_holds _ (out_of_range s.linetime.0) p11.0 in
    let p9 = neither_holds _ (out_of_range s.vdisplay.0) p10.0 in
    let p8 = neither_holds _ (out_of_range s.vblank.0) p9.0 in
    let p7 = neither_holds _ (out_of_range s.vpostequalise.0) p8.0 in
    let p6 = neither_holds _ (out_of_range s.vpreequalise.0) p7.0 in
    let p5 = neither_holds _ (out_of_range s.vsync.0) p6.0 in
    let p4 = neither_holds _ (out_of_range s.broadpulse.0) p5.0 in
    let p3 = neither_holds _ (out_of_range s.shortdisplay.0) p4.0 in
    let p2 = neither_holds _ (out_of_range s.display.0) p3.0 in
    let p1 = neither_holds _ (out_of_range s.backporch.0) p2.0 in
    record {
      halfsync = within _ p1.0;
      backporch = within _ p1.1;
      display = within _ p2.1;
      shortdisplay = within _ p3.1;
      broadpulse = within _ p4.1;
      vsync = within _ p5.1;
      vpreequalise = within _ p6.1;
      vpostequalise = within _ p7.1;
      vblank = within _ p8.1;
      vdisplay = within _ p9.1;
      linetime = within _ p10.1;
      meminit = within _ p11.1;
      transferdelay = within _ p12.1;
    }

unbroken : (s : Screen) → Bounded most s → refuses10 s ≡ false
unbroken s b = simp (on _ b.halfsync, on _ b.backporch, on _ b.display, on _ b.shortdisplay, on _ b.broadpulse, on _ b.vsync, on _ b.vpreequalise, on _ b.vpostequalise, on _ b.vblank, on _ b.vdisplay, on _ b.linetime, on _ b.meminit, on _ b.transferdelay)

odd_false : (n : ℕ) → eqb (n % 2) 1 ≡ false → n % 2 ≡ 0
odd_false n e = let one = eqb-false (n % 2) 1 e in omega arith

even_false : (n : ℕ) → eqb (n % 2) 0 ≡ false → n % 2 ≡ 1
even_false n e = let none = eqb-false (n % 2) 0 e in omega arith

by_16 : (s : Screen) → refuses16 s ≡ false → s.interlaced ≡ false → (eqb (s.vdisplay.0 % 2) 1 ≡ false) × (eqb (s.vblank.0 % 2) 1 ≡ false)
by_16 s e n = neither_holds (eqb (s.vdisplay.0 % 2) 1) (eqb (s.vblank.0 % 2) 1) (simp n at e)

by_18 : (s : Screen) → refuses18 s ≡ false → s.interlaced ≡ true → (eqb (s.vdisplay.0 % 2) 0 ≡ false) × (eqb (halves_in_field s % 2) 0 ≡ false)
by_18 s e n = neither_holds (eqb (s.vdisplay.0 % 2) 0) (eqb (halves_in_field s % 2) 0) (simp n at e)

-- a screen may start exactly when none of 10 to 18 holds: both directions
pub accepted : (control : ℕ) (s : Screen) → limit_of control s ≡ 0 → Accepted control s
unfolding limit_of later_limit
accepted control s e =
    let p10 = link_passed (refuses10 s) 9 _ e in
    let p11 = link_passed (refuses11 s) 10 _ p10.1 in
    let p12 = link_passed (refuses12 s) 11 _ p11.1 in
    let p13 = link_passed (refuses13 s) 12 _ p12.1 in
    let p14 = link_passed (refuses14 s) 13 _ p13.1 in
    let p15 = link_passed (refuses15 control s) 14 _ p14.1 in
    let p16 = link_passed (refuses16 s) 15 _ p15.1 in
    let p17 = link_passed (refuses17 s) 16 _ p16.1 in
    let p18 = link_passed (refuses18 s) 17 _ p17.1 in
    let delay = neither_holds (not (ltb (s.transferdelay.0 + 1) s.backporch.0)) _ p17.0 in
    record {
      bounded = bounded s p10.0;
      line_even = odd_false s.linetime.0 p11.0;
      line_holds = ltb-true _ _ (not-false _ p12.0);
      half_holds = ltb-true _ _ (not-false _ p13.0);
      pulse_holds = ltb-true _ _ (not-false _ p14.0);
      shifts_whole = eqb-true _ _ (not-false _ p15.0);
      display_even = λ n. odd_false s.vdisplay.0 (by_16 s p16.0 n).0;
      blank_even = λ n. odd_false s.vblank.0 (by_16 s p16.0 n).1;
      delay_below = ltb-true _ _ (not-false _ delay.0);
      delay_short = ltb-false _ _ delay.1;
      display_odd = λ n. even_false s.vdisplay.0 (by_18 s p18.0 n).0;
      halves_odd = λ n. even_false (halves_in_field s) (by_18 s p18.0 n).1;
    }

-- each of the two by its own format
module _ {control : ℕ} (s : Screen) (a : Accepted control s) where
  not_16 : refuses16 s ≡ false
  not_16 = go s.interlaced refl
    where
      go : (b : Bool) → s.interlaced ≡ b → (not b && (eqb (s.vdisplay.0 % 2) 1 || eqb (s.vblank.0 % 2) 1)) ≡ false
      go true n = refl
      go false n = neither _ _ (ne_eqb (s.vdisplay.0 % 2) 1 (λ e. omega (arith, a.display_even n))) (ne_eqb (s.vblank.0 % 2) 1 (λ e. omega (arith, a.blank_even n)))

  not_18 : refuses18 s ≡ false
  not_18 = go s.interlaced refl
    where
      go : (b : Bool) → s.interlaced ≡ b → (b && (eqb (s.vdisplay.0 % 2) 0 || eqb (halves_in_field s % 2) 0)) ≡ false
      go false n = refl
      go true n = neither _ _ (ne_eqb (s.vdisplay.0 % 2) 0 (λ e. omega (arith, a.display_odd n))) (ne_eqb (halves_in_field s % 2) 0 (λ e. omega (arith, a.halves_odd n)))

pub unrefused : (control : ℕ) (s : Screen) → Accepted control s → limit_of control s ≡ 0
unfolding limit_of later_limit
unrefused control s a =
    simp (
      unbroken s a.bounded,
      ne_eqb (s.linetime.0 % 2) 1 (λ e. omega arith),
      lt-ltb _ _ a.line_holds,
      lt-ltb _ _ a.half_holds,
      lt-ltb _ _ a.pulse_holds,
      eq-eqb _ _ a.shifts_whole,
      not_16 s a,
      lt-ltb _ _ a.delay_below,
      le-ltb _ _ a.delay_short,
      not_18 s a,
    )

-- the largest parameter fits the 24 bits of a register: sums are bounded by that alone
wider : {n : ℕ} → Within most n → Within 0xFFFFFF n
wider w = record { low = w.low; high = omega arith }

pub narrow : (s : Screen) → Bounded most s → Bounded 0xFFFFFF s
narrow s b =
    record {
      halfsync = wider b.halfsync;
      backporch = wider b.backporch;
      display = wider b.display;
      shortdisplay = wider b.shortdisplay;
      broadpulse = wider b.broadpulse;
      vsync = wider b.vsync;
      vpreequalise = wider b.vpreequalise;
      vpostequalise = wider b.vpostequalise;
      vblank = wider b.vblank;
      vdisplay = wider b.vdisplay;
      linetime = wider b.linetime;
      meminit = wider b.meminit;
      transferdelay = wider b.transferdelay;
    }

-- a screen that may start may start in either field: no limit asks for it
pub bounded_in : {largest : ℕ} (s : Screen) (f : Bool) → Bounded largest s → Bounded largest (in_field f s)
bounded_in s f b =
    record {
      halfsync = b.halfsync;
      backporch = b.backporch;
      display = b.display;
      shortdisplay = b.shortdisplay;
      broadpulse = b.broadpulse;
      vsync = b.vsync;
      vpreequalise = b.vpreequalise;
      vpostequalise = b.vpostequalise;
      vblank = b.vblank;
      vdisplay = b.vdisplay;
      linetime = b.linetime;
      meminit = b.meminit;
      transferdelay = b.transferdelay;
    }

pub accepted_in : {control : ℕ} (s : Screen) (f : Bool) → Accepted control s → Accepted control (in_field f s)
accepted_in s f a =
    record {
      bounded = bounded_in s f a.bounded;
      line_even = a.line_even;
      line_holds = a.line_holds;
      half_holds = a.half_holds;
      pulse_holds = a.pulse_holds;
      shifts_whole = a.shifts_whole;
      display_even = a.display_even;
      blank_even = a.blank_even;
      delay_below = a.delay_below;
      delay_short = a.delay_short;
      display_odd = a.display_odd;
      halves_odd = a.halves_odd;
    }
