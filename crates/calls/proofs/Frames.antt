-- A run over whole frames: a frame that nothing refuses leaves what the next one leaves. Assumes nothing.
use Prim.Native.Nat.{ℕ, zero, suc, ◌+◌, ◌-◌, ◌*◌, ◌/◌, ◌%◌, ◌≤◌, ◌<◌}
use mathlib.Core.Bool.{Bool, true, false, cond, ◌&&◌}
use mathlib.Core.List.{List}
use mathlib.Core.Logic.{◌⊎◌}
use mathlib.Core.Path.{◌≡◌, refl, sym, ap, subst, ◌∙◌}
use native.Mathlib.Nat.{add-zero, add-suc, zero-mul, suc-mul, div-add-mod}
use native.Mathlib.Numerals.{add-one}
use native.Mathlib.Omega.{arith}
use borrow.Author.Tests.{eq-eqb, eqb-true, eqb-false}
use lib.Dec.{eqb}
use Rattle.base.proofs.Bools.{below}
use Rattle.base.proofs.Some.{some_none}
use Rattle.control.specs.Control.{running}
use Rattle.screen.specs.Totals.{frame_ticks}
use Rattle.registers.specs.declared.Registers.{Registers}
use Rattle.generator.specs.Rows.{screen}
use Rattle.generator.specs.Tick.{tick_of, after}
use Rattle.generator.specs.Sound.{Sound}
use Rattle.generator.specs.declared.Generator.{Generator}
use Rattle.generator.specs.declared.Went.{Went}
use Rattle.machine.specs.Rules.{advanced}
use Rattle.machine.specs.declared.Machine.{Machine}
use Rattle.frame.specs.Frame.{AtStart, refused_within, picture_refuses20, frame_end}
use Rattle.frame.proofs.Whole.{frame_end_start, whole, unrefused_frame}
use Rattle.calls.specs.Calls.{ran_on, ran_of}
use Rattle.calls.specs.Runs.{machine_of, ran_in, Part, Exactly}
use Rattle.calls.specs.declared.Ran.{Ran}
use Rattle.calls.proofs.Running.{one_more, still, stays}
use Rattle.calls.proofs.Parts.{part_whole}

-- one more time
suc_times : (k n : ℕ) → suc k * n ≡ n + k * n
suc_times k n = omega (arith, suc-mul k n)

-- the same with k ticks done before
abbrev pub later : ℕ → Ran → Ran
later k x = record { done = k + x.done; refusal = x.refusal; machine = x.machine }

later_later : (a b c : ℕ) (x : Ran) → c ≡ a + b → later a (later b x) ≡ later c x
later_later a b c x e =
    let q : a + (b + x.done) ≡ c + x.done = omega arith in
    ap (λ (n : ℕ). record { done = n; refusal = x.refusal; machine = x.machine }) q

module _ (memory : List ℕ) where
  on_later : (k : ℕ) (x : Ran) → ran_on memory (later k x) ≡ later k (ran_on memory x)
  unfolding ran_on
  on_later k x = go (eqb x.refusal 0) (eqb (advanced x.machine memory).refusal 0)
    where
      go : (s t : Bool) →
          ◌≡◌ {A = Ran} (cond s (record { done = cond t (k + x.done + 1) (k + x.done); refusal = (advanced x.machine memory).refusal; machine = (advanced x.machine memory).machine }) (later k x))
          (later k (cond s (record { done = cond t (x.done + 1) x.done; refusal = (advanced x.machine memory).refusal; machine = (advanced x.machine memory).machine }) x))
      go true true = let e : k + x.done + 1 ≡ k + (x.done + 1) = omega arith in rw e
      go true false = refl
      go false t = refl

  module _ (m : Machine) where
    -- a run whose last tick is not refused had none refused before
    unrefused_before : (n : ℕ) → (ran_of memory m (suc n)).refusal ≡ 0 → (ran_of memory m n).refusal ≡ 0
    unrefused_before n e = go (eqb (ran_of memory m n).refusal 0) refl
      where
        go : (t : Bool) → eqb (ran_of memory m n).refusal 0 ≡ t → (ran_of memory m n).refusal ≡ 0
        go true q = eqb-true _ 0 q
        go false q = ap (λ (x : Ran). x.refusal) (sym (one_more memory m n ∙ still memory m (ran_of memory m n) (eqb-false _ 0 q))) ∙ e

    -- two runs, one after the other
    pub ran_join : (a b : ℕ) → (x : Machine) → ◌≡◌ {A = Ran} (ran_of memory m a) (record { done = a; refusal = 0; machine = x }) → ran_of memory m (a + b) ≡ later a (ran_of memory x b)
    unfolding ran_of
    ran_join a zero x e = ap (ran_of memory m) (add-zero a) ∙ e ∙ ap (λ (n : ℕ). record { done = n; refusal = 0; machine = x }) (sym (add-zero a))
    ran_join a (suc b) x e =
        ap (ran_of memory m) (add-suc a b) ∙ one_more memory m (a + b) ∙ ap (ran_on memory) (ran_join a b x e) ∙ on_later a (ran_of memory x b)

module _ (r : Registers) (memory : List ℕ) where
  -- one tick more that is not refused
  on_free : (g : Generator) (n : ℕ) → (tick_of r memory g).refusal ≡ 0 → ran_on memory (record { done = n; refusal = 0; machine = machine_of r g }) ≡ record { done = suc n; refusal = 0; machine = machine_of r (tick_of r memory g).next }
  unfolding ran_on advanced
  on_free g n e = simp e (ap (λ (k : ℕ). record { done = k; refusal = 0; machine = machine_of r (tick_of r memory g).next }) (add-one n))

  on_bound : (g : Generator) (n : ℕ) → (ran_on memory (record { done = n; refusal = 0; machine = machine_of r g })).refusal ≡ (tick_of r memory g).refusal
  unfolding ran_on advanced
  on_bound g n = refl

  -- what ticks leave that are not refused
  free_ran : (g : Generator) (n : ℕ) → ((k : ℕ) → k < n → (tick_of r memory (after r memory g k)).refusal ≡ 0) → ran_of memory (machine_of r g) n ≡ record { done = n; refusal = 0; machine = machine_of r (after r memory g n) }
  unfolding ran_of after
  free_ran g zero h = refl
  free_ran g (suc n) h = ap (ran_on memory) (free_ran g n (λ k l. h k (omega arith))) ∙ on_free (after r memory g n) n (h n (omega arith))

  -- in an unrefused run none is
  tick_free : (g : Generator) (n : ℕ) → (ran_of memory (machine_of r g) n).refusal ≡ 0 → (k : ℕ) → k < n → (tick_of r memory (after r memory g k)).refusal ≡ 0
  tick_free g zero e k l = absurd (omega arith)
  tick_free g (suc n) e k l = go (tick_free g n (unrefused_before memory (machine_of r g) n e)) (below k n)
    where
      go : ((j : ℕ) → j < n → (tick_of r memory (after r memory g j)).refusal ≡ 0) → (k < n) ⊎ (n ≤ k) → (tick_of r memory (after r memory g k)).refusal ≡ 0
      go before (◌⊎◌.inl p) = before k p
      go before (◌⊎◌.inr p) =
          let z : k ≡ n = omega arith in
          rw z (sym (on_bound (after r memory g n) n) ∙ ap (λ (x : Ran). (ran_on memory x).refusal) (sym (free_ran g n before)) ∙ ap (λ (x : Ran). x.refusal) (sym (one_more memory (machine_of r g) n)) ∙ e)

  -- a frame that a run went through unrefused: where it ends, and that another ends there too
  module _ (g : Generator) (runs : running r.control ≡ true) (start : AtStart g) (z : Sound r g) where
    abbrev F : ℕ
    F = frame_ticks (screen r)

    module _ (e : (ran_of memory (machine_of r g) F).refusal ≡ 0) where
      unread : picture_refuses20 r memory ≡ false
      unfolding refused_within
      unread = sym (whole r memory g z runs start).refusal ∙ some_none _ F (λ k l. rw (tick_free g F e k l))

      pub frame_ran : ran_of memory (machine_of r g) F ≡ record { done = F; refusal = 0; machine = machine_of r (frame_end r memory) }
      frame_ran = free_ran g F (tick_free g F e) ∙ ap (λ (x : Generator). record { done = F; refusal = 0; machine = machine_of r x }) ((whole r memory g z runs start).end unread)

      -- the generator that it leaves
      module _ (y : Sound r (frame_end r memory)) where
        free : (k : ℕ) → k < F → (tick_of r memory (after r memory (frame_end r memory) k)).refusal ≡ 0
        free = unrefused_frame r memory (frame_end r memory) y runs (frame_end_start r memory) unread

        again : ran_of memory (machine_of r (frame_end r memory)) F ≡ record { done = F; refusal = 0; machine = machine_of r (frame_end r memory) }
        again = free_ran (frame_end r memory) F free ∙ ap (λ (x : Generator). record { done = F; refusal = 0; machine = machine_of r x }) ((whole r memory (frame_end r memory) y runs (frame_end_start r memory)).end unread)

        -- whole frames more leave it as it was
        pub frames_ran : (k n : ℕ) → ran_of memory (machine_of r (frame_end r memory)) (k * F + n) ≡ later (k * F) (ran_of memory (machine_of r (frame_end r memory)) n)
        frames_ran zero n =
            let x = ran_of memory (machine_of r (frame_end r memory)) n in
            let e : 0 * F + n ≡ n = omega (arith, zero-mul F) in
            let q : x.done ≡ 0 * F + x.done = omega (arith, zero-mul F) in
            ap (ran_of memory (machine_of r (frame_end r memory))) e ∙ ap (λ (k : ℕ). record { done = k; refusal = x.refusal; machine = x.machine }) q
        frames_ran (suc k) n =
            let e : suc k * F + n ≡ F + (k * F + n) = omega (arith, suc_times k F) in
            ap (ran_of memory (machine_of r (frame_end r memory))) e
            ∙ ran_join memory (machine_of r (frame_end r memory)) F (k * F + n) (machine_of r (frame_end r memory)) again
            ∙ ap (later F) (frames_ran k n)
            ∙ later_later F (k * F) (suc k * F) (ran_of memory (machine_of r (frame_end r memory)) n) (suc_times k F)

    -- more ticks than a frame has, from what its first frame and the ticks after the last whole one have done
    module _ (count : ℕ) (long : F < count) (first : Went) (p : Exactly r memory g F first) where
      frames_refused : (first.refusal ≡ 0 → ⊥) → Exactly r memory g count first
      frames_refused n =
          let e : count ≡ F + (count - F) = omega arith in
          record {
            ran = p.ran ∙ sym (ap (ran_of memory (machine_of r g)) e ∙ stays memory (machine_of r g) F (count - F) (λ q. n (ap (λ (x : Ran). x.refusal) p.ran ∙ q)));
            most = omega (arith, p.most);
            sound = p.sound;
          }

      module _ (free : first.refusal ≡ 0) (some : 0 < F) where
        first_free : (ran_of memory (machine_of r g) F).refusal ≡ 0
        first_free = ap (λ (x : Ran). x.refusal) (sym p.ran) ∙ free

        first_end : first.next ≡ frame_end r memory
        first_end = ap (λ (x : Ran). x.machine.generator) (p.ran ∙ frame_ran first_free)

        split : count ≡ F + ((count - F) / F * F + (count - F) % F)
        split = omega (arith, div-add-mod (count - F) F)

        frames_passed : (last : Went) → Exactly r memory first.next ((count - F) % F) last →
            Exactly r memory g count (record { done = count - (count - F) % F + last.done; refusal = last.refusal; next = last.next })
        frames_passed last q =
            let k = (count - F) / F in
            let n = (count - F) % F in
            let end = machine_of r (frame_end r memory) in
            let y = subst (Sound r) first_end p.sound in
            let l = subst (λ (x : Generator). ran_in r last ≡ ran_of memory (machine_of r x) n) first_end q.ran in
            let sum : F + (k * F + last.done) ≡ count - n + last.done = omega (arith, split) in
            record {
              ran =
                  sym
                  (ap (ran_of memory (machine_of r g)) split
                  ∙ ran_join memory (machine_of r g) F (k * F + n) end (frame_ran first_free)
                  ∙ ap (later F) (frames_ran first_free y k n)
                  ∙ ap (λ (x : Ran). later F (later (k * F) x)) (sym l)
                  ∙ ap (λ (d : ℕ). record { done = d; refusal = last.refusal; machine = machine_of r last.next }) sum);
              most = omega (arith, q.most, split);
              sound = q.sound;
            }

    -- the same, of ticks that are a frame's
    module _ (f : ℕ) (e : f ≡ F) (count : ℕ) (first : Went) where
      pub refused_by : f < count → Exactly r memory g f first → (first.refusal ≡ 0 → ⊥) → Exactly r memory g count first
      refused_by l p n = frames_refused count (rw e at l) first (subst (λ (k : ℕ). Exactly r memory g k first) e p) n

      pub passed_by : f < count → Exactly r memory g f first → first.refusal ≡ 0 → 0 < f → (last : Went) → Exactly r memory first.next ((count - f) % f) last →
          Exactly r memory g count (record { done = count - (count - f) % f + last.done; refusal = last.refusal; next = last.next })
      passed_by =
          subst
          (λ (k : ℕ). k < count → Exactly r memory g k first → first.refusal ≡ 0 → 0 < k → (last : Went) → Exactly r memory first.next ((count - k) % k) last →
          Exactly r memory g count (record { done = count - (count - k) % k + last.done; refusal = last.refusal; next = last.next }))
          (sym e)
          (λ l p free some last q. frames_passed count l first p free some last q)

-- a run that has come to a frame's start, and goes on from there
pub run_joined : (r : Registers) (memory : List ℕ) (g : Generator) (count : ℕ) (halts : Bool) (way rest : Went) → Part r memory g count halts way → way.refusal ≡ 0 →
    Exactly r memory way.next (count - way.done) rest →
    ◌≡◌ {A = Ran} (record { done = way.done + rest.done; refusal = rest.refusal; machine = machine_of r rest.next }) (ran_of memory (machine_of r g) count)
run_joined r memory g count halts way rest p e q =
    let n : count ≡ way.done + (count - way.done) = omega (arith, p.most) in
    let here : ◌≡◌ {A = Ran} (ran_of memory (machine_of r g) way.done) (record { done = way.done; refusal = 0; machine = machine_of r way.next }) =
    sym (p.ran ∙ rw (eq-eqb way.refusal 0 e)) ∙ ap (λ (k : ℕ). record { done = way.done; refusal = k; machine = machine_of r way.next }) e in
    sym (ap (ran_of memory (machine_of r g)) n ∙ ran_join memory (machine_of r g) way.done (count - way.done) (machine_of r way.next) here ∙ ap (later way.done) (sym q.ran))

-- one that is stopped, or refused on its way
pub run_ended : (r : Registers) (memory : List ℕ) (g : Generator) (count : ℕ) (halts : Bool) (way : Went) → Part r memory g count halts way → (halts && eqb way.refusal 0) ≡ false → ran_in r way ≡ ran_of memory (machine_of r g) count
run_ended r memory g count true way p e = p.ran ∙ rw e
run_ended r memory g count false way p e = (part_whole r memory g count way p).ran
