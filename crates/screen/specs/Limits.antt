-- Refusals 10 to 18 (01, "Refusal numbers"; 02, Q-4): when a screen may start. Assumes nothing.
use Rattle.std.specs.Prelude.{ℕ, ◌+◌, ◌%◌, ◌<◌, ◌≤◌, ◌≡◌, Bool, true, false, not, cond, ◌&&◌, ◌||◌, ltb, eqb}
use Rattle.control.specs.Control.{shift_period}
use Rattle.units.specs.Parameters.{display_from, half_ticks, halves_in_field}
use Rattle.units.specs.declared.Screen.{Screen}
use Rattle.screen.specs.Range.{most, refuses10}

-- 11: LineTime is odd
abbrev pub refuses11 : Screen → Bool
refuses11 s = eqb (s.linetime.0 % 2) 1

-- 12: LineTime is not above 2 HalfSync + BackPorch + Display
abbrev pub refuses12 : Screen → Bool
refuses12 s = not (ltb (display_from s + s.display.0) s.linetime.0)

-- 13: 2 HalfSync + BackPorch + ShortDisplay is not below LineTime/2
abbrev pub refuses13 : Screen → Bool
refuses13 s = not (ltb (display_from s + s.shortdisplay.0) (half_ticks s))

-- 14: BroadPulse is not below LineTime/2
abbrev pub refuses14 : Screen → Bool
refuses14 s = not (ltb s.broadpulse.0 (half_ticks s))

-- 15: Display is not a multiple of the shift period
abbrev pub refuses15 : ℕ → Screen → Bool
refuses15 control s = not (eqb (s.display.0 % shift_period control) 0)

-- 16, not interlaced: VDisplay or VBlank is odd
abbrev pub refuses16 : Screen → Bool
refuses16 s = not s.interlaced && (eqb (s.vdisplay.0 % 2) 1 || eqb (s.vblank.0 % 2) 1)

-- 17: TransferDelay is not below BackPorch - 1 (one more is not below BackPorch), or above ShortDisplay
abbrev pub refuses17 : Screen → Bool
refuses17 s = not (ltb (s.transferdelay.0 + 1) s.backporch.0) || ltb s.shortdisplay.0 s.transferdelay.0

-- 18, interlaced: VDisplay is even, or a field has an even number of half lines
abbrev pub refuses18 : Screen → Bool
refuses18 s = s.interlaced && (eqb (s.vdisplay.0 % 2) 0 || eqb (halves_in_field s % 2) 0)

-- the lowest of 11 to 18 that holds, or 0
unfoldable pub later_limit : ℕ → Screen → ℕ
later_limit control s =
    cond (refuses11 s) 11
    (cond (refuses12 s) 12
    (cond (refuses13 s) 13
    (cond (refuses14 s) 14
    (cond (refuses15 control s) 15
    (cond (refuses16 s) 16
    (cond (refuses17 s) 17
    (cond (refuses18 s) 18
    0)))))))

-- the lowest of 10 to 18 that holds, or 0
unfoldable pub limit_of : ℕ → Screen → ℕ
limit_of control s = cond (refuses10 s) 10 (later_limit control s)

-- a count from 1 up to a largest
pub record Within (largest n : ℕ) : Type 0 where
  pub low : 0 < n
  pub high : n ≤ largest

-- every parameter but LineStart is such a count
pub record Bounded (largest : ℕ) (s : Screen) : Type 0 where
  pub halfsync : Within largest s.halfsync.0
  pub backporch : Within largest s.backporch.0
  pub display : Within largest s.display.0
  pub shortdisplay : Within largest s.shortdisplay.0
  pub broadpulse : Within largest s.broadpulse.0
  pub vsync : Within largest s.vsync.0
  pub vpreequalise : Within largest s.vpreequalise.0
  pub vpostequalise : Within largest s.vpostequalise.0
  pub vblank : Within largest s.vblank.0
  pub vdisplay : Within largest s.vdisplay.0
  pub linetime : Within largest s.linetime.0
  pub meminit : Within largest s.meminit.0
  pub transferdelay : Within largest s.transferdelay.0

-- what a screen keeps that may start: none of 10 to 18 holds
pub record Accepted (control : ℕ) (s : Screen) : Type 0 where
  pub bounded : Bounded most s
  pub line_even : s.linetime.0 % 2 ≡ 0
  pub line_holds : display_from s + s.display.0 < s.linetime.0
  pub half_holds : display_from s + s.shortdisplay.0 < half_ticks s
  pub pulse_holds : s.broadpulse.0 < half_ticks s
  pub shifts_whole : s.display.0 % shift_period control ≡ 0
  pub display_even : s.interlaced ≡ false → s.vdisplay.0 % 2 ≡ 0
  pub blank_even : s.interlaced ≡ false → s.vblank.0 % 2 ≡ 0
  pub delay_below : s.transferdelay.0 + 1 < s.backporch.0
  pub delay_short : s.transferdelay.0 ≤ s.shortdisplay.0
  pub display_odd : s.interlaced ≡ true → s.vdisplay.0 % 2 ≡ 1
  pub halves_odd : s.interlaced ≡ true → halves_in_field s % 2 ≡ 1
