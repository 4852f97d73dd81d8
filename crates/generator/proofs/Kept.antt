-- The one condition is kept by every tick, refused or not, and holds of a fresh generator on every screen that may start.
-- Assumes nothing.
use Prim.Native.Nat.{ℕ, zero, suc, ◌+◌, ◌^◌, ◌≤◌, ◌<◌}
use mathlib.Core.Bool.{Bool, true, false, not, cond, ◌&&◌, true≢false}
use mathlib.Core.List.{List}
use mathlib.Core.Logic.{⊎_elim}
use mathlib.Core.Path.{◌≡◌, refl, sym, subst, ◌∙◌}
use native.Mathlib.Nat.{mul-le-mul_right, zero-mul, add-zero}
use native.Mathlib.Omega.{arith}
use borrow.Author.Tests.{leb-true, lt-ltb, le-ltb, le-leb, lt-leb}
use lib.Dec.{ltb, leb, eqb}
use Rattle.base.specs.Count.{count}
use Rattle.base.specs.Sum.{rolled}
use Rattle.control.specs.Control.{increment}
use Rattle.units.specs.Parameters.{in_field, half_ticks, halves_in_field, field_ticks}
use Rattle.screen.specs.Limits.{Accepted}
use Rattle.screen.proofs.limits.Laws.{accepted_in}
use Rattle.units.specs.declared.Screen.{Screen}
use Rattle.registers.specs.File.{InWidths}
use Rattle.registers.specs.declared.Registers.{Registers}
use Rattle.signals.specs.Signals.{colours_of}
use Rattle.pixel.proofs.Laws.{none_below, where_below}
use Rattle.pixel.specs.declared.Sums.{Sums}
use Rattle.lines.specs.Lines.{opens, closes, next_second, next_half, next_at, tick_number, visible_before}
use Rattle.generator.specs.Rows.{screen, field_at, visible_at, shows, top_used, taken, transfer_at, held_address}
use Rattle.generator.specs.Counters.{fresh}
use Rattle.generator.specs.Tick.{dots, cleared, sums_after, seen_after, step_with, tick_refusal, tick_of, after}
use Rattle.generator.specs.Sound.{Placed, Rolled, Sound}
use Rattle.generator.specs.declared.Generator.{Generator}
use Rattle.generator.specs.declared.Ticked.{Ticked}
use Rattle.generator.proofs.VisibleBefore.{visible_next}
use Rattle.generator.proofs.Rows.{top_used_in}
use Rattle.base.proofs.Bools.{below, both_hold}

module _ (s : Screen) (h u : ℕ) where
  -- the next tick of the half line
  module _ (p : u + 1 < half_ticks s) where
    half_stays : next_half s h u ≡ h
    unfolding next_half
    half_stays = simp (lt-ltb (u + 1) (half_ticks s) p)

    at_next : next_at s u ≡ u + 1
    unfolding next_at
    at_next = simp (lt-ltb (u + 1) (half_ticks s) p)

    inside_open : closes s h u ≡ false
    unfolding closes
    inside_open = go (leb (halves_in_field s) (h + 1))
      where
        go : (t : Bool) → (t && leb (half_ticks s) (u + 1)) ≡ false
        go true = lt-leb (half_ticks s) (u + 1) p
        go false = refl

  -- the half line's last tick: the next half line, or the next field
  module _ (p : half_ticks s ≤ u + 1) where
    pub at_first : next_at s u ≡ 0
    unfolding next_at
    at_first = simp (le-ltb (u + 1) (half_ticks s) p)

    half_next : h + 1 < halves_in_field s → next_half s h u ≡ h + 1
    unfolding next_half
    half_next q = simp (le-ltb (u + 1) (half_ticks s) p, lt-ltb (h + 1) (halves_in_field s) q)

    pub half_first : halves_in_field s ≤ h + 1 → next_half s h u ≡ 0
    unfolding next_half
    half_first q = simp (le-ltb (u + 1) (half_ticks s) p, le-ltb (h + 1) (halves_in_field s) q)

    field_closes : halves_in_field s ≤ h + 1 → closes s h u ≡ true
    unfolding closes
    field_closes q = simp (le-leb (halves_in_field s) (h + 1) q, le-leb (half_ticks s) (u + 1) p)

  pub line_open : h + 1 < halves_in_field s → closes s h u ≡ false
  unfolding closes
  line_open q = simp (lt-leb (halves_in_field s) (h + 1) q)

  -- where the tick after one of the field stands: one number on, or at a field's first
  pub record Next : Type 0 where
    pub half_in : next_half s h u < halves_in_field s
    pub at_in : next_at s u < half_ticks s
    pub number : tick_number s (next_half s h u) (next_at s u) ≡ cond (closes s h u) 0 (tick_number s h u + 1)

  module _ (hi : h < halves_in_field s) (ui : u < half_ticks s) where
    pub next : Next
    next = ⊎_elim same other (below (u + 1) (half_ticks s))
      where
        same : u + 1 < half_ticks s → Next
        same p =
            record {
              half_in = simp (half_stays p) hi;
              at_in = simp (at_next p) p;
              number = simp (half_stays p, at_next p, inside_open p) (omega arith);
            }

        other : half_ticks s ≤ u + 1 → Next
        other p =
            ⊎_elim
            (λ q.
            record {
              half_in = simp (half_next p q) q;
              at_in = simp (at_first p) (omega arith);
              number = simp (half_next p q, at_first p, line_open q) (omega arith);
            })
            (λ q.
            record {
              half_in = simp (half_first p q) (omega arith);
              at_in = simp (at_first p) (omega arith);
              number = simp (half_first p q, at_first p, field_closes p q, zero-mul);
            })
            (below (h + 1) (halves_in_field s))

    -- a tick closes the field exactly where its number is the field's last
    pub closes_before : tick_number s h u + 1 < field_ticks s → closes s h u ≡ false
    closes_before l =
        ⊎_elim inside_open
        (λ p. ⊎_elim line_open (λ q. absurd (omega (arith, mul-le-mul_right (half_ticks s) q))) (below (h + 1) (halves_in_field s)))
        (below (u + 1) (half_ticks s))

    pub last_at : tick_number s h u + 1 ≡ field_ticks s → half_ticks s ≤ u + 1
    last_at e = omega (arith, mul-le-mul_right (half_ticks s) hi)

    pub last_half : tick_number s h u + 1 ≡ field_ticks s → halves_in_field s ≤ h + 1
    last_half e = ⊎_elim (λ q. absurd (omega (arith, mul-le-mul_right (half_ticks s) q))) (λ q. q) (below (h + 1) (halves_in_field s))

    pub closes_last : tick_number s h u + 1 ≡ field_ticks s → closes s h u ≡ true
    closes_last e = field_closes (last_at e) (last_half e)

none_visible : (s : Screen) → visible_before s 0 ≡ 0
unfolding visible_before count
none_visible s = refl

-- the field one tick on
module _ (s : Screen) (h u : ℕ) where
  pub same_field : closes s h u ≡ false → next_second s h u ≡ s.second
  unfolding next_second
  same_field e = simp e

  pub other_field : closes s h u ≡ true → next_second s h u ≡ (s.interlaced && not s.second)
  unfolding next_second
  other_field e = simp e

module _ (r : Registers) (ok : Accepted r.control (screen r)) where
  -- before a field's first tick nothing of it is counted
  pub start_placed : (g : Generator) → (g.second ≡ true → (screen r).interlaced ≡ true) → g.half.0 ≡ 0 → g.at.0 ≡ 0 → g.seen.0 ≡ 0 → Placed (field_at r g) g
  start_placed g f h u v =
      record {
        field_in = f;
        half_in = omega (arith, ok.bounded.vpreequalise.low);
        at_in = omega (arith, ok.half_holds);
        seen_is = v ∙ sym (simp (h, u, zero-mul, add-zero) (none_visible (field_at r g)));
      }

  -- a step keeps the place, past the field's end too
  pub step_placed : (g : Generator) (sums : Sums) → Placed (field_at r g) g → Placed (field_at r (step_with r g sums)) (step_with r g sums)
  unfolding step_with seen_after visible_at closes
  step_placed g sums p = go (closes (field_at r g) g.half.0 g.at.0) refl
    where
      n : Next (field_at r g) g.half.0 g.at.0
      n = next (field_at r g) g.half.0 g.at.0 p.half_in p.at_in

      go : (c : Bool) → closes (field_at r g) g.half.0 g.at.0 ≡ c → Placed (field_at r (step_with r g sums)) (step_with r g sums)
      go true e =
          let last = both_hold (leb (halves_in_field (field_at r g)) (g.half.0 + 1)) (leb (half_ticks (field_at r g)) (g.at.0 + 1)) e in
          let at_end = leb-true _ _ last.1 in
          start_placed (step_with r g sums)
          (λ q. (both_hold (screen r).interlaced (not g.second) (sym (other_field (field_at r g) g.half.0 g.at.0 e) ∙ q)).0)
          (half_first (field_at r g) g.half.0 g.at.0 at_end (leb-true _ _ last.0))
          (at_first (field_at r g) g.half.0 g.at.0 at_end)
          (simp e)
      go false e =
          subst (λ (b : Bool). Placed (in_field b (screen r)) (step_with r g sums)) (sym (same_field (field_at r g) g.half.0 g.at.0 e))
          (record {
            field_in = λ q. p.field_in (sym (same_field (field_at r g) g.half.0 g.at.0 e) ∙ q);
            half_in = n.half_in;
            at_in = n.at_in;
            seen_is = simp e (rw n.number (simp e (rw p.seen_is (sym (visible_next r.control (field_at r g) (accepted_in (screen r) g.second ok) g.half.0 g.at.0 p.at_in)))));
          })

  either : (x : Bool) (a b : Ticked) → Placed (field_at r a.next) a.next → Placed (field_at r b.next) b.next → Placed (field_at r (cond x a b).next) (cond x a b).next
  either true a b p q = p
  either false a b p q = q

  pub tick_placed : (m : List ℕ) (g : Generator) → Placed (field_at r g) g → Placed (field_at r (tick_of r m g).next) (tick_of r m g).next
  unfolding tick_of
  tick_placed m g p = either (eqb (tick_refusal r m g) 0) _ _ (step_placed g (sums_after r m g) p) p

  -- a generator that has just started stands before the first tick of PreEqualise, and has counted nothing
  pub fresh_placed : Placed (field_at r fresh) fresh
  fresh_placed = start_placed fresh (λ e. absurd (true≢false (sym e))) refl refl refl

pub fresh_rolled : Rolled fresh
fresh_rolled = record { held = omega arith; sums = none_below }

module _ (r : Registers) (widths : InWidths r) where
  -- the address held is top, the one before, or one rolled over
  held_rolled : (g : Generator) → g.held < 2 ^ 24 → held_address r g < 2 ^ 24
  unfolding held_address taken
  held_rolled g p = go (transfer_at r g && ltb 0 g.seen.0) (opens (field_at r g) g.half.0 g.at.0)
    where
      top : (o : Bool) → cond o (top_used r g.second) g.held < 2 ^ 24
      top true = omega (arith, top_used_in r widths g.second)
      top false = p

      go : (t o : Bool) → cond t (rolled (cond o (top_used r g.second) g.held) (increment r.control)) (cond o (top_used r g.second) g.held) < 2 ^ 24
      go true o = omega arith
      go false o = top o

  step_rolled : (m : List ℕ) (g : Generator) → Rolled g → Rolled (step_with r g (sums_after r m g))
  unfolding step_with sums_after cleared
  step_rolled m g p =
      record { held = held_rolled g p.held; sums = where_below (opens (field_at r g) g.half.0 g.at.0) (shows r g) g.sums (colours_of (dots r m g)) p.sums }

  either_rolled : (x : Bool) (a b : Ticked) → Rolled a.next → Rolled b.next → Rolled (cond x a b).next
  either_rolled true a b p q = p
  either_rolled false a b p q = q

  pub tick_rolled : (m : List ℕ) (g : Generator) → Rolled g → Rolled (tick_of r m g).next
  unfolding tick_of
  tick_rolled m g p = either_rolled (eqb (tick_refusal r m g) 0) _ _ (step_rolled m g p) p

-- THE ONE CONDITION IS KEPT by a tick
pub tick_sound : (r : Registers) (m : List ℕ) (g : Generator) → Sound r g → Sound r (tick_of r m g).next
tick_sound r m g z =
    record {
      widths = z.widths;
      in_build = z.in_build;
      rolled = tick_rolled r z.widths m g z.rolled;
      accepted = z.accepted;
      placed = λ on. tick_placed r (z.accepted on) m g (z.placed on);
    }

-- and by any number of them
pub after_sound : (r : Registers) (m : List ℕ) (g : Generator) → Sound r g → (n : ℕ) → Sound r (after r m g n)
unfolding after
after_sound r m g z zero = z
after_sound r m g z (suc n) = tick_sound r m (after r m g n) (after_sound r m g z n)
