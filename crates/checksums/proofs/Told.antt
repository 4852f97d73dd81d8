-- What nine bytes tell of two fields, of any two machines that the calls give from the beginning. Assumes nothing.
use Prim.Native.Nat.{ℕ, zero, suc, ◌+◌, ◌%◌, ◌^◌, ◌<◌}
use mathlib.Core.Bool.{Bool, true, false, true≢false}
use mathlib.Core.List.{List, []}
use mathlib.Core.Path.{◌≡◌, refl, sym, ap, ◌∙◌}
use native.Mathlib.Omega.{arith}
use borrow.Author.Tests.{eqb-true, eqb-false, not-true}
use lib.Dec.{eqb}
use lib.ListN.{get_or}
use Rattle.base.specs.Count.{run}
use Rattle.vault.specs.Nine.{nine_bytes}
use Rattle.vault.proofs.Laws.{word_injective, nine_injective}
use Rattle.registers.specs.Map.{place_of}
use Rattle.lines.specs.Lines.{period, is_vdisplay}
use Rattle.signals.specs.declared.Signals.{Signals}
use Rattle.pixel.specs.Sums.{none, summed}
use Rattle.pixel.specs.declared.Sums.{Sums}
use Rattle.generator.specs.Rows.{field_at}
use Rattle.generator.specs.Counters.{displaying}
use Rattle.machine.specs.Rules.{beginning, read_refusal, answered, advanced}
use Rattle.machine.specs.Words.{checksum_words}
use Rattle.machine.specs.Conditions.{SoundMachine}
use Rattle.machine.specs.declared.Machine.{Machine}
use Rattle.machine.proofs.Soundness.{beginning_sound}
use Rattle.machine.proofs.Theorems.{tick_refused_same}
use Rattle.demands.specs.Asked.{Asked, after_every}
use Rattle.demands.specs.Demand2.{runs}
use Rattle.demands.proofs.ByTheRules.{by_the_rules}
use Rattle.demands.proofs.Reached.{reached_sound}
use Rattle.demands.proofs.Second.{words_read, demand_2}
use Rattle.calls.specs.Nine.{nine_of}
use Rattle.checksums.specs.Field.{unwatched, with_calls, put_out, in_flyback}
use Rattle.checksums.specs.Apart.{total}
use Rattle.checksums.specs.Told.{nine_given, Readable, Told, OneBadPixel}
use Rattle.checksums.proofs.Totals.{sum_in, sum_is, sums_are, sums_from, changed_total, one_byte, rises_apart, all_apart, stuck_apart}
use Rattle.checksums.proofs.Followed.{Followed, narrow_at, calls_followed, beginning_followed}

-- ---- the reads are answered

module _ (m : Machine) (z : SoundMachine m) (back : in_flyback m ≡ true) where
  -- a tick with FrameInactive high does not lie in VDisplay
  high_past : (advanced m []).signals.inactive ≡ true → is_vdisplay (period (field_at m.regs m.generator) m.generator.half.0) ≡ false
  high_past high = go (eqb (advanced m []).refusal 0) refl
    where
      go : (t : Bool) → eqb (advanced m []).refusal 0 ≡ t → is_vdisplay (period (field_at m.regs m.generator) m.generator.half.0) ≡ false
      go true e = not-true _ (sym (by_the_rules m [] (eqb-true _ 0 e) z).frame_inactive ∙ high)
      go false e = absurd (true≢false (sym high ∙ ap (λ (s : Signals). s.inactive) (tick_refused_same m [] (eqb-false _ 0 e)).1))

  in_flyback_lem : displaying m.regs m.generator ≡ false
  unfolding displaying
  in_flyback_lem = go (runs m) refl
    where
      go : (t : Bool) → runs m ≡ t → displaying m.regs m.generator ≡ false
      go false e = simp e
      go true e = simp e (high_past (simp e at back))

  reads_answered : (k : ℕ) → k < 3 → (answered m (0x0C0 + k)).refusal ≡ 0
  unfolding answered place_of read_refusal
  reads_answered zero l = simp in_flyback_lem
  reads_answered (suc zero) l = simp in_flyback_lem
  reads_answered (suc (suc zero)) l = simp in_flyback_lem
  reads_answered (suc (suc (suc k))) l = absurd (omega (arith, l))

  readable : Readable m
  unfolding nine_of
  readable =
      let read = reads_answered in
      record {
        reads = reads_answered;
        unrefused = simp (read 0 (omega arith), read 1 (omega arith), read 2 (omega arith));
        given = refl;
      }

  -- the nine bytes are those of the sums
  nine_is : nine_given m ≡ nine_bytes (checksum_words m.generator.sums)
  nine_is = ap nine_bytes (readable.given ∙ words_read m (reads_answered 0 (omega arith)))

words_small : (s : Sums) (k : ℕ) → get_or (checksum_words s) k 0 < 2 ^ 24
unfolding checksum_words run
words_small s zero = omega arith
words_small s (suc zero) = omega arith
words_small s (suc (suc zero)) = omega arith
words_small s (suc (suc (suc k))) = omega arith

-- ---- two machines

module _ (calls others : List Asked) (m n : Machine) (reached : m ≡ after_every beginning calls) (met : n ≡ after_every beginning others) (back : in_flyback m ≡ true) (too : in_flyback n ≡ true) where
  abbrev xs : List ℕ
  xs = put_out calls

  abbrev ys : List ℕ
  ys = put_out others

  z : SoundMachine m
  z = reached_sound calls m reached

  y : SoundMachine n
  y = reached_sound others n met

  followed : Followed (with_calls unwatched beginning calls) m
  followed = rw reached (calls_followed unwatched beginning calls beginning_sound beginning_followed)

  followed_too : Followed (with_calls unwatched beginning others) n
  followed_too = rw met (calls_followed unwatched beginning others beginning_sound beginning_followed)

  -- equal bytes are equal sums
  sums_same : nine_given m ≡ nine_given n → m.generator.sums ≡ n.generator.sums
  unfolding checksum_words run
  sums_same e =
      (demand_2 others n met).checksums_apart calls m reached (reads_answered n y too 0 (omega arith)) (reads_answered m z back 0 (omega arith))
      (words_read m (reads_answered m z back 0 (omega arith))
      ∙ nine_injective (checksum_words m.generator.sums) (checksum_words n.generator.sums) refl refl (words_small m.generator.sums) (words_small n.generator.sums)
      (sym (nine_is m z back) ∙ e ∙ nine_is n y too)
      ∙ sym (words_read n (reads_answered n y too 0 (omega arith))))

  totals_same : nine_given m ≡ nine_given n → (channel : ℕ) → total channel xs % 2 ^ 24 ≡ total channel ys % 2 ^ 24
  totals_same e channel =
      sym (sum_is channel xs)
      ∙ ap (sum_in channel) (sym followed.sums ∙ sums_same e ∙ followed_too.sums)
      ∙ sum_is channel ys

  told : Told calls others m n
  told =
      record {
        readable = readable m z back;
        readable_too = readable n y too;
        totals = (readable m z back).given ∙ words_read m (reads_answered m z back 0 (omega arith)) ∙ ap checksum_words (followed.sums ∙ sums_are xs);
        totals_too = (readable n y too).given ∙ words_read n (reads_answered n y too 0 (omega arith)) ∙ ap checksum_words (followed_too.sums ∙ sums_are ys);
        same = λ e.
            nine_is m z back ∙ ap (λ (s : Sums). nine_bytes (checksum_words s)) (followed.sums ∙ ap (summed none) e ∙ sym followed_too.sums) ∙ sym (nine_is n y too);
        one_apart = λ o e.
            o.apart
            (word_injective (get_or xs o.place 0) (get_or ys o.place 0) (narrow_at xs o.place followed.narrow) (narrow_at ys o.place followed_too.narrow)
            (one_byte 0 xs ys o (totals_same e 0)) (one_byte 1 xs ys o (totals_same e 1)) (one_byte 2 xs ys o (totals_same e 2)));
        changed_about = λ c.
            nine_is m z back
            ∙ ap (λ (s : Sums). nine_bytes (checksum_words s)) (followed.sums ∙ sums_from xs ys (λ channel. changed_total channel xs ys c) ∙ sym followed_too.sums)
            ∙ sym (nine_is n y too);
        all_rise = λ r e. all_apart xs ys r (totals_same e);
        all_fall = λ r e. all_apart ys xs r (λ channel. sym (totals_same e channel));
        rises = λ channel l r e. rises_apart channel xs ys r (totals_same e channel);
        falls = λ channel l r e. rises_apart channel ys xs r (sym (totals_same e channel));
        stuck = λ channel line high l k s e. stuck_apart channel line high xs ys k s (totals_same e channel);
      }

-- ONE BAD PIXEL CAN'T HIDE
pub one_bad_pixel : OneBadPixel
one_bad_pixel calls others m n reached met back too = told calls others m n reached met back too
