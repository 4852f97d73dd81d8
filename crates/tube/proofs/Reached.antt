-- What the script's calls give: its writes, and then ticks. Assumes nothing. n: whether the room is interlaced.
use Prim.Native.Nat.{ℕ, zero, suc}
use mathlib.Core.Path.{◌≡◌, refl, sym, ◌∙◌, ap}
use mathlib.Core.Bool.{Bool}
use mathlib.Core.List.{List, [], ◌∷◌, ◌++◌, map}
use lib.ListN.{replicate}
use Rattle.machine.specs.Rules.{beginning, advanced}
use Rattle.machine.specs.Calls.{Call, tick, after_call, after_all}
use Rattle.machine.specs.declared.Machine.{Machine}
use Rattle.picture.specs.Machines.{ticked}
use Rattle.demands.specs.Asked.{Asked, of, after_asked, after_every}
use Rattle.tube.specs.Started.{writes_of, table, started}

every_of : (m : Machine) (calls : List Call) → after_all m calls ≡ after_every m (map of calls)
every_of m [] = refl
every_of m (call ∷ rest) = every_of (after_call m call) rest

started_reached : (n : Bool) → started n ≡ after_every beginning (map of (writes_of (table n)))
unfolding started
started_reached n = every_of beginning (writes_of (table n))

every_more : (m : Machine) (calls more : List Asked) → after_every m (calls ++ more) ≡ after_every (after_every m calls) more
every_more m [] more = refl
every_more m (call ∷ rest) more = every_more (after_asked m call) rest more

ticks_first : (m : Machine) (memory : List ℕ) (k : ℕ) → ticked m memory (suc k) ≡ ticked (advanced m memory).machine memory k
unfolding ticked
ticks_first m memory zero = refl
ticks_first m memory (suc k) = ap (λ (x : Machine). (advanced x memory).machine) (ticks_first m memory k)

ticks_reached : (m : Machine) (memory : List ℕ) (k : ℕ) → ticked m memory k ≡ after_every m (replicate k (of (tick memory)))
unfolding ticked
ticks_reached m memory zero = refl
ticks_reached m memory (suc k) = ticks_first m memory k ∙ ticks_reached (advanced m memory).machine memory k

-- so many ticks after the script's writes
abbrev pub run_calls : Bool → List ℕ → ℕ → List Asked
run_calls n memory k = map of (writes_of (table n)) ++ replicate k (of (tick memory))

pub run_reached : (n : Bool) (memory : List ℕ) (k : ℕ) → ticked (started n) memory k ≡ after_every beginning (run_calls n memory k)
run_reached n memory k =
    ticks_reached (started n) memory k
    ∙ ap (λ (m : Machine). after_every m (replicate k (of (tick memory)))) (started_reached n)
    ∙ sym (every_more beginning (map of (writes_of (table n))) (replicate k (of (tick memory))))
