-- `generator::stand::first_visible` meets its contract: 24 bits bound the counts.
use Prim.Native.Nat.{ℕ, ◌+◌, ◌*◌, ◌^◌, ◌≤◌}
use mathlib.Core.Bool.{Bool, true, false, cond}
use mathlib.Core.Path.{◌≡◌}
use native.Mathlib.Nat.{add-zero}
use native.Mathlib.Omega.{arith}
use lib.Dec.{ltb, eqb}
use Rattle.units.specs.Parameters.{half_ticks, display_from, halves_to_vdisplay}
use Rattle.screen.specs.Limits.{Bounded}
use Rattle.lines.specs.Lines.{lead}
use Rattle.units.specs.declared.Screen.{Screen}
use Rattle.generator.specs.First.{first_visible}
use Rattle.generator.proofs.stand.first_visible.Goals as goal

-- what is added is at most a line
add_most : (s : Screen) → Bounded 0xFFFFFF s → (a b : Bool) (late add : ℕ) → late ≡ cond b 0 (half_ticks s + display_from s) → add ≡ cond a (display_from s) late → add ≤ 2 ^ 27
add_most s k true b late add el ea = omega (arith, k.halfsync.high, k.backporch.high)
add_most s k false true late add el ea = omega arith
add_most s k false false late add el ea = omega (arith, k.linetime.high, k.halfsync.high, k.backporch.high)

by : (s : Screen) (before late add : ℕ) → before ≡ lead s → late ≡ cond (ltb before s.display.0) 0 (half_ticks s + display_from s) → add ≡ cond (eqb before 0) (display_from s) late → halves_to_vdisplay s * half_ticks s + add ≡ first_visible s
unfolding first_visible
by s before late add eb el ea = rw (ea, el, eb, add-zero)

pub returns : goal.returns
returns c = record { number = by c.args.s c.args.before _ _ c.requires.before_value c.choose-late.ensures.chosen c.choose.ensures.chosen }
