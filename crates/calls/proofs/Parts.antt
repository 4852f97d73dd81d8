-- A run one by one, up to a refused tick, to its end or to a frame's start. Assumes nothing.
use Prim.Native.Nat.{ℕ, ◌≤◌, ◌<◌}
use mathlib.Core.Bool.{Bool, true, false, not, ◌&&◌, true≢false}
use mathlib.Core.List.{List}
use mathlib.Core.Path.{◌≡◌, refl, sym, ap, ◌∙◌}
use mathlib.Core.Logic.{◌⊎◌}
use native.Mathlib.Omega.{arith}
use borrow.Author.Tests.{lt-ltb, ltb-true, ne_eqb, eqb-true, not-true}
use lib.Dec.{ltb, eqb}
use Rattle.base.proofs.Bools.{below, both_hold}
use Rattle.registers.specs.declared.Registers.{Registers}
use Rattle.generator.specs.Counters.{is_start}
use Rattle.generator.specs.Tick.{tick_of}
use Rattle.generator.specs.Sound.{Sound}
use Rattle.generator.specs.declared.Generator.{Generator}
use Rattle.generator.specs.declared.Ticked.{Ticked}
use Rattle.generator.specs.declared.Went.{Went}
use Rattle.generator.proofs.Kept.{tick_sound}
use Rattle.frame.specs.Frame.{AtStart}
use Rattle.calls.specs.Calls.{ran_of}
use Rattle.calls.specs.Runs.{machine_of, ran_in, Part, Exactly}
use Rattle.calls.specs.declared.Ran.{Ran}
use Rattle.calls.proofs.Running.{ran_refused}

-- the test is the position
start_holds : (g : Generator) → is_start g ≡ true → AtStart g
start_holds g e =
    let first = both_hold (not g.second) (eqb g.half.0 0 && eqb g.at.0 0) e in
    let both = both_hold (eqb g.half.0 0) (eqb g.at.0 0) first.1 in
    record { field = not-true g.second first.0; half = eqb-true g.half.0 0 both.0; at = eqb-true g.at.0 0 both.1 }

-- unhalted, it is exactly as many as were wanted
pub part_whole : (r : Registers) (memory : List ℕ) (g : Generator) (count : ℕ) (w : Went) → Part r memory g count false w → Exactly r memory g count w
part_whole r memory g count w p = record { ran = go (eqb w.refusal 0) refl; most = p.most; sound = p.sound }
  where
    all : w.refusal ≡ 0 → (w.done < count) ⊎ (count ≤ w.done) → w.done ≡ count
    all e (◌⊎◌.inl l) = absurd (true≢false (sym (p.early e l).0))
    all e (◌⊎◌.inr l) = omega (arith, p.most)

    go : (t : Bool) → eqb w.refusal 0 ≡ t → ran_in r w ≡ ran_of memory (machine_of r g) count
    go true e = p.ran ∙ rw e (ap (ran_of memory (machine_of r g)) (all (eqb-true _ 0 e) (below w.done count)))
    go false e = p.ran ∙ rw e

-- a run goes on while ticks are due and no start that it halts at is reached
pub test_below : (done count : ℕ) (other : Bool) → (ltb done count && other) ≡ true → done < count
test_below done count other e = ltb-true done count (both_hold (ltb done count) other e).0

halted : (b c : Bool) → (true && not (b && c)) ≡ false → (b ≡ true) × (c ≡ true)
halted true true e = (refl, refl)
halted true false e = absurd (true≢false e)
halted false c e = absurd (true≢false e)

module _ (r : Registers) (memory : List ℕ) (g : Generator) (count done : ℕ) (halts : Bool) (now : Generator) (l : done ≤ count)
    (e : ◌≡◌ {A = Ran} (record { done = done; refusal = 0; machine = machine_of r now }) (ran_of memory (machine_of r g) done)) (z : Sound r now) where
  pub part_refused : (t : Ticked) → t ≡ tick_of r memory now → (t.refusal ≡ 0 → ⊥) → done < count → Part r memory g count halts (record { done = done; refusal = t.refusal; next = t.next })
  part_refused t et n p =
      record {
        ran = rw (ne_eqb t.refusal 0 n) (ran_refused memory (machine_of r g) r done now t e et n count p);
        most = l;
        early = λ q _. absurd (n q);
        sound = rw et (tick_sound r memory now z);
      }

  pub part_ended : (b : Bool) → b ≡ is_start now → (ltb done count && not (halts && b)) ≡ false → Part r memory g count halts (record { done = done; refusal = 0; next = now })
  part_ended b eb q =
      record {
        ran = e;
        most = l;
        early = λ _ p. let both = halted halts b (rw (lt-ltb done count p) at q) in (both.0, start_holds now (sym eb ∙ both.1));
        sound = z;
      }
