-- The two cases of a tick. Assumes nothing.
use Prim.Native.Nat.{ℕ}
use mathlib.Core.Bool.{Bool, true, false, ◌||◌}
use mathlib.Core.List.{[]}
use mathlib.Core.Path.{◌≡◌}
use Rattle.waveform.specs.BitWires.{levels_differ}
use Rattle.waveform.specs.WideWires.{buses_differ}
use Rattle.waveform.specs.Waveform.{wire_texts, tick_texts}
use Rattle.signals.specs.declared.Signals.{Signals}

module _ (first : Bool) (k : ℕ) (before s : Signals) (other : Bool) (e : other ≡ (levels_differ before s || buses_differ before s)) where
  pub tick_written : (first || other) ≡ true → tick_texts first k before s ≡ wire_texts first k before s
  unfolding tick_texts
  tick_written t = rw (← e, t)

  pub tick_still : (first || other) ≡ false → tick_texts first k before s ≡ []
  unfolding tick_texts
  tick_still t = rw (← e, t)
