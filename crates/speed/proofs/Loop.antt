-- Ticks into a room of words, one by one: what holds before each, and where they end. Assumes nothing.
use Prim.Native.Nat.{ℕ, zero, suc, ◌+◌, ◌-◌, ◌*◌, ◌≤◌, ◌<◌}
use mathlib.Core.List.{List}
use mathlib.Core.Path.{◌≡◌, refl, sym, ap, ◌∙◌}
use lib.ListN.{length}
use lib.Seq.{sets, length-sets}
use native.Mathlib.Nat.{add-zero, add-suc}
use native.Mathlib.Numerals.{add-one}
use native.Mathlib.Omega.{arith}
use borrow.Author.Tests.{eq-eqb, ne_eqb}
use Rattle.registers.specs.declared.Registers.{Registers}
use Rattle.generator.specs.Tick.{tick_of, after}
use Rattle.generator.specs.Sound.{Sound}
use Rattle.generator.specs.declared.Generator.{Generator}
use Rattle.generator.specs.declared.Ticked.{Ticked}
use Rattle.generator.proofs.Kept.{tick_sound}
use Rattle.frame.specs.Demand.{answer}
use Rattle.speed.specs.Ticks.{words_of, ticks_in, ticks_done, refusal_of, words_after, Filled}

module _ (r : Registers) (m : List ℕ) (g : Generator) (room : List ℕ) where
  -- so many ticks are done, none refused, and their words stand below place k
  pub record Going (done k : ℕ) (now : Generator) (out : List ℕ) : Type 0 where
    pub all : ticks_done r m g done ≡ done
    pub next : now ≡ after r m g done
    pub place : k ≡ 6 * done
    pub words : out ≡ words_after r m g room done
    pub size : length out ≡ length room
    pub sound : Sound r now

  pub going_first : Sound r g → Going 0 0 g room
  unfolding ticks_done after words_after
  going_first z = record { all = refl; next = refl; place = refl; words = refl; size = refl; sound = z }

  one_more : (n : ℕ) → (answer r m g (ticks_done r m g n)).refusal ≡ 0 → ticks_done r m g (suc n) ≡ ticks_done r m g n + 1
  unfolding ticks_done
  one_more n e = rw (eq-eqb _ 0 e)

  none_more : (n : ℕ) → ((answer r m g (ticks_done r m g n)).refusal ≡ 0 → ⊥) → ticks_done r m g (suc n) ≡ ticks_done r m g n
  unfolding ticks_done
  none_more n e = rw (ne_eqb _ 0 e)

  module _ (done k : ℕ) (now : Generator) (out : List ℕ) (p : Going done k now out) where
    -- there is room for one more
    pub room_left : (most : ℕ) → most ≡ ticks_in (length room) → done < most → k + 6 ≤ length out
    room_left most e l = rw (p.size, p.place) (omega arith)

    -- the room is used up
    pub filled_ended : done ≡ ticks_in (length room) → Filled r m g room out (record { done = done; refusal = 0; next = now })
    unfolding refusal_of
    filled_ended e =
        record {
          done = rw (← e, p.all);
          refusal = rw (← e, p.all, eq-eqb done done refl);
          next = rw (← e, p.all) p.next;
          words = rw (← e, p.all) p.words;
        }

    module _ (t : Ticked) (et : t ≡ tick_of r m now) where
      -- the tick is the one after those done
      is_at : t ≡ answer r m g done
      is_at = et ∙ ap (tick_of r m) p.next

      refusal_at : (n : ℕ) → ticks_done r m g n ≡ done → (answer r m g (ticks_done r m g n)).refusal ≡ t.refusal
      refusal_at n e = ap (λ (x : ℕ). (answer r m g x).refusal) e ∙ ap (λ (x : Ticked). x.refusal) (sym is_at)

      pub going_next : t.refusal ≡ 0 → (later : List ℕ) → later ≡ sets out k (words_of t.signals) → Going (done + 1) (k + 6) t.next later
      unfolding after words_after
      going_next e later el =
          record {
            all = rw add-one (one_more done (refusal_at done p.all ∙ e) ∙ rw (p.all, add-one));
            next = rw add-one (ap (λ (x : Ticked). x.next) is_at);
            place = rw p.place (omega arith);
            words = rw (add-one, el, p.place, p.words, is_at);
            size = rw el (length-sets out k (words_of t.signals) ∙ p.size);
            sound = rw et (tick_sound r m now p.sound);
          }

      -- past a refused tick nothing is done
      stays : (t.refusal ≡ 0 → ⊥) → (j : ℕ) → ticks_done r m g (done + j) ≡ done
      stays n zero = rw add-zero p.all
      stays n (suc j) =
          let here = stays n j in
          rw add-suc (none_more (done + j) (λ e. n (sym (refusal_at (done + j) here) ∙ e)) ∙ here)

      pub filled_refused : (t.refusal ≡ 0 → ⊥) → done < ticks_in (length room) → Filled r m g room out (record { done = done; refusal = t.refusal; next = now })
      unfolding refusal_of
      filled_refused n l =
          let count = ticks_in (length room) in
          let split : count ≡ done + (count - done) = omega arith in
          let here : ticks_done r m g count ≡ done = ap (ticks_done r m g) split ∙ stays n (count - done) in
          let apart : done ≡ count → ⊥ = λ e. absurd (omega (arith, e)) in
          record {
            done = rw here;
            refusal = rw (here, ne_eqb done count apart, is_at);
            next = rw here p.next;
            words = rw here p.words;
          }
