-- What is seen of the field at hand is what the machine's checksums hold, whatever is called. Assumes nothing.
use Prim.Native.Nat.{ℕ, zero, suc, ◌+◌, ◌^◌, ◌<◌, ◌≤◌}
use mathlib.Core.Bool.{Bool, true, false, not, cond, ◌&&◌, ◌||◌, true≢false}
use mathlib.Core.List.{List, [], ◌∷◌, ◌++◌, append-nil}
use mathlib.Core.Logic.{◌⊎◌, inl, inr}
use mathlib.Core.Path.{◌≡◌, refl, sym, ap, ◌∙◌}
use native.Mathlib.Omega.{arith}
use borrow.Author.Tests.{eqb-true, eqb-false, lt-ltb, le-ltb, lt-leb, le-leb, ne_eqb, not-false}
use lib.Dec.{ltb, leb, eqb}
use lib.ListN.{length, get_or}
use Rattle.base.specs.Count.{run}
use Rattle.base.proofs.Bools.{below}
use Rattle.control.specs.Control.{running}
use Rattle.units.specs.Parameters.{half_ticks, halves_to_vdisplay, halves_in_field, screen_of}
use Rattle.screen.specs.Totals.{frame_ticks}
use Rattle.lines.specs.Lines.{opens, next_half, next_at}
use Rattle.lines.proofs.Moments.{in_vdisplay}
use Rattle.registers.specs.Map.{place_of, is_control, is_parameter}
use Rattle.registers.specs.File.{zeros, store_in, InWidths}
use Rattle.registers.specs.declared.map.Place.{Place}
use Rattle.registers.specs.declared.Registers.{Registers}
use Rattle.registers.proofs.Laws.{control_stored, control_kept, params_kept}
use Rattle.signals.specs.Signals.{black, colours_of}
use Rattle.memory.specs.Memory.{pixel_shown}
use Rattle.colour.specs.Colour.{masked_colour}
use Rattle.cursor.specs.Cursor.{code_over, over}
use Rattle.pixel.specs.Dot.{dot_at}
use Rattle.pixel.specs.Sums.{none, summed}
use Rattle.pixel.specs.declared.Sums.{Sums}
use Rattle.pixel.proofs.Laws.{summed_join, colours_run}
use Rattle.generator.specs.Rows.{screen, held_address}
use Rattle.generator.specs.Counters.{fresh}
use Rattle.generator.specs.Tick.{dot_of}
use Rattle.machine.specs.Access.{write_refusal}
use Rattle.machine.specs.Calls.{write, read, tick}
use Rattle.machine.specs.Rules.{beginning, starts, stored, written, answered, advanced}
use Rattle.machine.specs.Conditions.{SoundMachine}
use Rattle.machine.specs.declared.Machine.{Machine}
use Rattle.machine.proofs.access.Passed.{Passed, passed}
use Rattle.machine.proofs.Soundness.{advance_sound}
use Rattle.machine.proofs.Theorems.{tick_refused_same}
use Rattle.picture.specs.Picture.{picture_refusal, drawn_of}
use Rattle.picture.specs.Machines.{ticked, pictured}
use Rattle.picture.proofs.Machines.{pictured_ticks}
use Rattle.demands.specs.Asked.{Asked, of, lent, picture, after_asked, after_every}
use Rattle.demands.specs.ByTheRules.{half_now, at_now, v, out, next, cleared_now, ByTheRules}
use Rattle.demands.specs.Demand2.{runs}
use Rattle.demands.proofs.ByTheRules.{runs_now, by_the_rules}
use Rattle.demands.proofs.Reached.{asked_sound}
use Rattle.checksums.specs.Field.{Watched, unwatched, is_first, lit, begun, seen, with_tick, with_ticks, started, with_call, with_calls}

-- ---- colours of 24 bits

abbrev pub Narrow : List ℕ → Type 0
Narrow [] = Unit
Narrow (x ∷ xs) = (x < 2 ^ 24) × Narrow xs

narrow_join : (xs ys : List ℕ) → Narrow xs → Narrow ys → Narrow (xs ++ ys)
narrow_join [] ys p q = q
narrow_join (x ∷ xs) ys p q = (p.0, narrow_join xs ys p.1 q)

pub narrow_at : (xs : List ℕ) (i : ℕ) → Narrow xs → get_or xs i 0 < 2 ^ 24
narrow_at [] i p = omega arith
narrow_at (x ∷ xs) zero p = p.0
narrow_at (x ∷ xs) (suc i) p = narrow_at xs i p.1

narrow_run : (f : ℕ → ℕ) → ((k : ℕ) → f k < 2 ^ 24) → (from n : ℕ) → Narrow (run f from n)
unfolding run
narrow_run f p from zero = tt
narrow_run f p from (suc n) = (p from, narrow_run f p (suc from) n)

masked_narrow : (palette : List ℕ) (mask pixel : ℕ) → masked_colour palette mask pixel < 2 ^ 24
unfolding masked_colour
masked_narrow palette mask pixel = omega arith

over_narrow : (colours : List ℕ) (code below : ℕ) → ((k : ℕ) → get_or colours k 0 ≤ 0xFFFFFF) → below < 2 ^ 24 → over colours code below < 2 ^ 24
over_narrow colours zero below p q = q
over_narrow colours (suc k) below p q = omega (arith, p k)

dot_narrow : (r : Registers) → InWidths r → (position : ℕ) (memory : List ℕ) (place x y : ℕ) → (dot_at r position memory place x y).colour < 2 ^ 24
unfolding dot_at
dot_narrow r p position memory place x y =
    over_narrow r.colours (code_over r.control position r.store x y) (masked_colour r.palette r.mask (pixel_shown r.control memory place)) p.colours
    (masked_narrow r.palette r.mask (pixel_shown r.control memory place))

-- ---- where FrameInactive falls, over plain numbers. d: the half lines of a field before VDisplay

-- the next tick lies before VDisplay, or is its first
abbrev waits : ℕ → ℕ → ℕ → Bool
waits d half at = ltb half d || (eqb half d && eqb at 0)

and_false : (t : Bool) → (t && false) ≡ false
and_false true = refl
and_false false = refl

and_true : (t : Bool) → (t && true) ≡ t
and_true true = refl
and_true false = refl

module _ (d half at : ℕ) where
  falls_first : 0 < d → (high : Bool) → ((half ≡ 0 → at ≡ 0 → ⊥) → high ≡ waits d half at) → (high && not (not (leb d half))) ≡ (eqb half d && eqb at 0)
  falls_first p high e = go (below half d)
    where
      go : (half < d) ⊎ (d ≤ half) → (high && not (not (leb d half))) ≡ (eqb half d && eqb at 0)
      go (inl l) = rw (lt-leb d half l, ne_eqb half d (λ f. omega (arith, f))) (and_false high)
      go (inr l) =
          let h : high ≡ waits d half at = e (λ z o. omega (arith, z)) in
          rw (le-leb d half l, and_true high) (h ∙ rw (le-ltb half d l))

  -- a tick further on
  waits_in : not (leb d half) ≡ waits d half (at + 1)
  waits_in = go (below half d)
    where
      go : (half < d) ⊎ (d ≤ half) → not (leb d half) ≡ waits d half (at + 1)
      go (inl l) = rw (lt-leb d half l, lt-ltb half d l)
      go (inr l) = rw (le-leb d half l, le-ltb half d l, ne_eqb (at + 1) 0 (λ z. omega (arith, z))) (sym (and_false (eqb half d)))

  waits_on : not (leb d half) ≡ waits d (half + 1) 0
  waits_on = go (below half d)
    where
      last : half < d → (t : Bool) → eqb (half + 1) d ≡ t → true ≡ (ltb (half + 1) d || (t && true))
      last l true e = rw (le-ltb (half + 1) d (omega (arith, eqb-true (half + 1) d e)))
      last l false e = rw (lt-ltb (half + 1) d (less (half + 1) d (omega arith) (eqb-false (half + 1) d e)))
        where
          less : (a b : ℕ) → a ≤ b → (a ≡ b → ⊥) → a < b
          less a b p n = omega (arith, n)

      go : (half < d) ⊎ (d ≤ half) → not (leb d half) ≡ waits d (half + 1) 0
      go (inl l) = rw (lt-leb d half l) (last l (eqb (half + 1) d) refl)
      go (inr l) = rw (le-leb d half l, le-ltb (half + 1) d (omega arith), ne_eqb (half + 1) d (λ f. omega (arith, f)))

-- ---- what has been seen of a machine

abbrev to_vdisplay : Machine → ℕ
to_vdisplay m = halves_to_vdisplay (screen m.regs)

-- the checksums are those of the colours seen; and a running machine that is past its field's beginning had FrameInactive high at its last tick
-- exactly if the next one lies before VDisplay or is its first
pub record Followed (w : Watched) (m : Machine) : Type 0 where
  pub sums : m.generator.sums ≡ summed none w.colours
  pub narrow : Narrow w.colours
  pub level : runs m ≡ true → (half_now m ≡ 0 → at_now m ≡ 0 → ⊥) → w.high ≡ waits (to_vdisplay m) (half_now m) (at_now m)

-- ---- one tick

module _ (w : Watched) (m : Machine) (memory : List ℕ) (z : SoundMachine m) (f : Followed w m) where
  module _ (b : ByTheRules m memory) (on : runs m ≡ true) where
    inactive_is : (out m memory).inactive ≡ not (leb (to_vdisplay m) (half_now m))
    inactive_is = b.frame_inactive ∙ ap not (sym (in_vdisplay _ (half_now m)))

    vdisplay_some : 0 < to_vdisplay m
    vdisplay_some = omega (arith, (z.accepted on).bounded.vpreequalise.low)

    first_is : is_first w (out m memory) ≡ (eqb (half_now m) (to_vdisplay m) && eqb (at_now m) 0)
    first_is = rw inactive_is (falls_first (to_vdisplay m) (half_now m) (at_now m) vdisplay_some w.high (f.level on))

    begun_sums : cleared_now m ≡ summed none (begun w (out m memory))
    unfolding opens summed
    begun_sums = go (is_first w (out m memory)) refl
      where
        go : (t : Bool) → is_first w (out m memory) ≡ t → cleared_now m ≡ summed none (begun w (out m memory))
        go true e = simp (sym first_is ∙ e, e)
        go false e = simp (sym first_is ∙ e, e) f.sums

    begun_narrow : Narrow (begun w (out m memory))
    begun_narrow = go (is_first w (out m memory))
      where
        go : (t : Bool) → Narrow (cond t [] w.colours)
        go true = tt
        go false = f.narrow

    tick_sums : (next m memory).sums ≡ summed none (begun w (out m memory) ++ lit (out m memory))
    tick_sums = b.checksums ∙ go (out m memory).blank
      where
        go : (t : Bool) → cond t (cleared_now m) (summed (cleared_now m) (colours_of (out m memory).dots)) ≡ summed none (begun w (out m memory) ++ cond t [] (colours_of (out m memory).dots))
        go true = begun_sums ∙ ap (summed none) (sym (append-nil (begun w (out m memory))))
        go false = ap (λ (x : Sums). summed x (colours_of (out m memory).dots)) begun_sums ∙ sym (summed_join none (begun w (out m memory)) (colours_of (out m memory).dots))

    four_narrow : (k : ℕ) → (dot_of m.regs m.generator.second memory (held_address m.regs m.generator) (v m) k).colour < 2 ^ 24
    unfolding dot_of
    four_narrow k = dot_narrow m.regs z.widths _ memory _ _ _

    lit_narrow : Narrow (lit (out m memory))
    lit_narrow = rw b.colours (go (out m memory).blank)
      where
        go : (t : Bool) → Narrow (cond t [] (colours_of (cond t (black ∷ black ∷ black ∷ black ∷ []) (run (dot_of m.regs m.generator.second memory (held_address m.regs m.generator) (v m)) 0 4))))
        go true = tt
        go false = rw colours_run (narrow_run _ four_narrow 0 4)

    -- the level that a tick leaves is right for the next
    level_on : (half_now (advanced m memory).machine ≡ 0 → at_now (advanced m memory).machine ≡ 0 → ⊥) →
        (out m memory).inactive ≡ waits (to_vdisplay m) (half_now (advanced m memory).machine) (at_now (advanced m memory).machine)
    unfolding next_half next_at
    level_on past = inactive_is ∙ rw (b.half, b.at) (go (ltb (at_now m + 1) (half_ticks (screen m.regs))) refl (ltb (half_now m + 1) (halves_in_field (screen m.regs))) refl)
      where
        go : (t : Bool) → ltb (at_now m + 1) (half_ticks (screen m.regs)) ≡ t → (u : Bool) → ltb (half_now m + 1) (halves_in_field (screen m.regs)) ≡ u →
            not (leb (to_vdisplay m) (half_now m)) ≡ waits (to_vdisplay m) (cond t (half_now m) (cond u (half_now m + 1) 0)) (cond t (at_now m + 1) 0)
        go true e u c = waits_in (to_vdisplay m) (half_now m) (at_now m)
        go false e true c = waits_on (to_vdisplay m) (half_now m) (at_now m)
        go false e false c = absurd (past (b.half ∙ simp (e, c)) (b.at ∙ simp e))

  tick_answered : (advanced m memory).refusal ≡ 0 → Followed (seen w (out m memory)) (advanced m memory).machine
  unfolding advanced
  tick_answered free =
      let b = by_the_rules m memory free z in
      let on = runs_now m memory free in
      record {
        sums = tick_sums b on;
        narrow = narrow_join (begun w (out m memory)) (lit (out m memory)) (begun_narrow b on) (lit_narrow b on);
        level = λ _ past. level_on b on past;
      }

  pub tick_followed : Followed (with_tick w (advanced m memory).refusal (advanced m memory).signals) (advanced m memory).machine
  unfolding with_tick
  tick_followed = go (eqb (advanced m memory).refusal 0) refl
    where
      go : (t : Bool) → eqb (advanced m memory).refusal 0 ≡ t →
          Followed (cond t (seen w (out m memory)) w) (advanced m memory).machine
      go true e = tick_answered (eqb-true _ 0 e)
      go false e = rw (tick_refused_same m memory (eqb-false _ 0 e)).0 f

-- ticks one after another, and a picture
ticks_sound : (m : Machine) (memory : List ℕ) (n : ℕ) → SoundMachine m → SoundMachine (ticked m memory n)
unfolding ticked
ticks_sound m memory zero z = z
ticks_sound m memory (suc n) z = advance_sound (ticked m memory n) memory (ticks_sound m memory n z)

ticks_followed : (w : Watched) (m : Machine) (memory : List ℕ) (n : ℕ) → SoundMachine m → Followed w m → Followed (with_ticks w m memory n) (ticked m memory n)
unfolding with_ticks ticked
ticks_followed w m memory zero z f = f
ticks_followed w m memory (suc n) z f = tick_followed (with_ticks w m memory n) (ticked m memory n) memory (ticks_sound m memory n z) (ticks_followed w m memory n z f)

picture_stays : (m : Machine) (memory : List ℕ) (size : ℕ) → ((pictured m memory size).refusal ≡ 0 → ⊥) → (pictured m memory size).machine ≡ m
unfolding pictured drawn_of
picture_stays m memory size n = simp (ne_eqb (picture_refusal m.regs memory m.generator size) 0 n)

picture_followed : (w : Watched) (m : Machine) (memory buffer : List ℕ) → SoundMachine m → Followed w m → Followed (with_call w m (picture memory buffer)) (after_asked m (picture memory buffer))
picture_followed w m memory buffer z f = go (eqb (pictured m memory (length buffer)).refusal 0) refl
  where
    go : (t : Bool) → eqb (pictured m memory (length buffer)).refusal 0 ≡ t → Followed (cond t (with_ticks w m memory (frame_ticks (screen m.regs))) w) (pictured m memory (length buffer)).machine
    go true e = rw (pictured_ticks m memory (length buffer) (eqb-true _ 0 e)) (ticks_followed w m memory (frame_ticks (screen m.regs)) z f)
    go false e = rw (picture_stays m memory (length buffer) (eqb-false _ 0 e)) f

-- ---- a write

module _ (w : Watched) (m : Machine) (f : Followed w m) (p : Place) (value : ℕ) where
  -- it starts the generator exactly where the machine ran not before it and runs after it
  started_is : (c : Bool) → is_control p ≡ c → started m (stored m p value) ≡ starts m.regs p value
  unfolding stored
  started_is true e = rw (control_stored m.regs p value e) (simp e (turned (running value) (running m.regs.control)))
    where
      turned : (a b : Bool) → (not b && a) ≡ (a && not b)
      turned true true = refl
      turned true false = refl
      turned false true = refl
      turned false false = refl
  started_is false e = rw (control_kept m.regs p value e) (simp e (never (running m.regs.control)))
    where
      never : (b : Bool) → (not b && b) ≡ false
      never true = refl
      never false = refl

  -- a running machine's parameters stand
  kept : Passed m.regs p value → runs m ≡ true → (store_in m.regs p value).params ≡ m.regs.params
  kept q on = params_kept m.regs p value (go (is_parameter p) refl)
    where
      go : (t : Bool) → is_parameter p ≡ t → t ≡ false
      go true e = absurd (true≢false (sym on ∙ (simp e at q.idle)))
      go false e = refl

  ran : (c : Bool) → is_control p ≡ c → starts m.regs p value ≡ false → running (store_in m.regs p value).control ≡ true → runs m ≡ true
  ran true e s on = not-false (runs m) (simp (e, rw (control_stored m.regs p value e) at on) at s)
  ran false e s on = rw (control_kept m.regs p value e) at on

  stored_followed : Passed m.regs p value → Followed (cond (started m (stored m p value)) unwatched w) (stored m p value)
  unfolding stored summed screen_of
  stored_followed q = rw (started_is (is_control p) refl) (go (starts m.regs p value) refl)
    where
      go : (t : Bool) → starts m.regs p value ≡ t → Followed (cond t unwatched w) (record { regs = store_in m.regs p value; generator = cond t fresh m.generator })
      go true e = record { sums = refl; narrow = tt; level = λ _ past. absurd (past refl refl) }
      go false e =
          record {
            sums = f.sums;
            narrow = f.narrow;
            level = λ on past. let before = ran (is_control p) refl e on in rw (kept q before) (f.level before past);
          }

write_followed : (w : Watched) (m : Machine) (address value : ℕ) → Followed w m → Followed (with_call w m (of (write address value))) (after_asked m (of (write address value)))
unfolding written
write_followed w m address value f = go (eqb (write_refusal m.regs (place_of address) value) 0) refl
  where
    idle : (b : Bool) → (not b && b) ≡ false
    idle true = refl
    idle false = refl

    go : (t : Bool) → eqb (write_refusal m.regs (place_of address) value) 0 ≡ t →
        Followed (cond (started m (cond t (stored m (place_of address) value) m)) unwatched w) (cond t (stored m (place_of address) value) m)
    go true e = stored_followed w m f (place_of address) value (passed m.regs (place_of address) value (eqb-true _ 0 e))
    go false e = rw (idle (runs m)) f

-- ---- any calls

call_followed : (w : Watched) (m : Machine) (call : Asked) → SoundMachine m → Followed w m → Followed (with_call w m call) (after_asked m call)
unfolding advanced answered
call_followed w m (of (write address value)) z f = write_followed w m address value f
call_followed w m (of (read address)) z f = f
call_followed w m (of (tick memory)) z f = tick_followed w m memory z f
call_followed w m (lent memory) z f = tick_followed w m memory z f
call_followed w m (picture memory buffer) z f = picture_followed w m memory buffer z f

pub calls_followed : (w : Watched) (m : Machine) (calls : List Asked) → SoundMachine m → Followed w m → Followed (with_calls w m calls) (after_every m calls)
calls_followed w m [] z f = f
calls_followed w m (call ∷ rest) z f = calls_followed (with_call w m call) (after_asked m call) rest (asked_sound m call z) (call_followed w m call z f)

pub beginning_followed : Followed unwatched beginning
unfolding summed zeros
beginning_followed = record { sums = refl; narrow = tt; level = λ on. absurd (true≢false (sym on)) }
