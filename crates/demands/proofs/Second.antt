-- DEMAND 2 holds of every machine that the calls give from the beginning. Assumes nothing.
use Prim.Native.Nat.{ℕ, zero, suc, ◌+◌, ◌<◌}
use mathlib.Core.Bool.{Bool, true, false, cond}
use mathlib.Core.List.{List, [], ◌∷◌}
use mathlib.Core.Path.{◌≡◌, refl, sym, ap, ◌∙◌}
use native.Mathlib.Omega.{arith}
use lib.Dec.{eqb}
use borrow.Author.Tests.{eq-eqb}
use Rattle.base.specs.Channels.{joined}
use Rattle.base.specs.Count.{run}
use Rattle.control.specs.Control.{running}
use Rattle.sheet.proofs.writer.Laws.{read_front, written_read}
use Rattle.registers.specs.Map.{place_of, is_control, is_reserved}
use Rattle.registers.specs.File.{zeros, value_in}
use Rattle.registers.proofs.Laws.{control_stored, control_kept}
use Rattle.generator.specs.Tick.{tick_of}
use Rattle.machine.specs.Access.{write_refusal}
use Rattle.machine.specs.Calls.{write, read, tick}
use Rattle.machine.specs.Rules.{beginning, starts, stored, written, read_refusal, value_at, answered, advanced}
use Rattle.machine.specs.Words.{byte_of, checksum_words}
use Rattle.machine.specs.Conditions.{SoundMachine}
use Rattle.machine.specs.declared.Machine.{Machine}
use Rattle.machine.proofs.Theorems.{starts_if, starts_only_if, started_fresh, read_same, spared, write_mapped, stands_back}
use Rattle.machine.proofs.Words.{words_apart}
use Rattle.picture.specs.Machines.{pictured}
use Rattle.demands.specs.Asked.{Asked, of, lent, picture, after_asked, after_every, SparesAsked, UntouchedEvery}
use Rattle.demands.proofs.Reached.{reached_sound}
use Rattle.demands.proofs.ByTheRules.{by_the_rules}
use Rattle.demands.proofs.Palettes.{palette_written, palettes_differ}
use Rattle.demands.proofs.Unused.{line_start_unused, bits_unused}
use Rattle.demands.specs.Demand2.{runs, said_by, last_said, checksums_read, Demand2}

module _ (m : Machine) where
  write_runs : (address value : ℕ) → runs (after_asked m (of (write address value))) ≡ said_by (runs m) m (of (write address value))
  unfolding written stored
  write_runs address value = go (eqb (write_refusal m.regs (place_of address) value) 0) refl (is_control (place_of address)) refl
    where
      go : (t : Bool) → eqb (write_refusal m.regs (place_of address) value) 0 ≡ t → (c : Bool) → is_control (place_of address) ≡ c → runs (after_asked m (of (write address value))) ≡ said_by (runs m) m (of (write address value))
      go true e true f = simp (e, f) (ap running (control_stored m.regs (place_of address) value f))
      go true e false f = simp (e, f) (ap running (control_kept m.regs (place_of address) value f))
      go false e c f = simp e

  runs_by : (call : Asked) → runs (after_asked m call) ≡ said_by (runs m) m call
  unfolding answered advanced pictured
  runs_by (of (write address value)) = write_runs address value
  runs_by (of (read address)) = refl
  runs_by (of (tick memory)) = refl
  runs_by (lent memory) = refl
  runs_by (picture memory buffer) = refl

  write_leaves : (address value : ℕ) → starts m.regs (place_of address) value ≡ false → (written m address value).machine.generator ≡ m.generator
  unfolding written stored
  write_leaves address value e = go (eqb (write_refusal m.regs (place_of address) value) 0)
    where
      go : (t : Bool) → (cond t (stored m (place_of address) value) m).generator ≡ m.generator
      go true = simp e
      go false = refl

-- a register stands through any call that does not write it
spared_asked : (a : ℕ) (m : Machine) (call : Asked) → SparesAsked a m call → is_reserved (place_of a) ≡ false → value_in (after_asked m call).regs (place_of a) ≡ value_in m.regs (place_of a)
unfolding pictured
spared_asked a m (of call) s mapped = spared a m call s mapped
spared_asked a m (lent memory) s mapped = refl
spared_asked a m (picture memory buffer) s mapped = refl

spared_every : (a : ℕ) (m : Machine) (calls : List Asked) → UntouchedEvery a m calls → is_reserved (place_of a) ≡ false → value_in (after_every m calls).regs (place_of a) ≡ value_in m.regs (place_of a)
spared_every a m [] u mapped = refl
spared_every a m (call ∷ rest) u mapped = spared_every a (after_asked m call) rest u.1 mapped ∙ spared_asked a m call u.0 mapped

back : (m : Machine) → SoundMachine m → (a v : ℕ) (calls : List Asked) → (written m a v).refusal ≡ 0 → UntouchedEvery a (written m a v).machine calls →
    (answered (after_every (written m a v).machine calls) a).refusal ≡ 0 → (answered (after_every (written m a v).machine calls) a).value ≡ v
back m z a v calls w u e = stands_back m a v z w (after_every (written m a v).machine calls) (spared_every a (written m a v).machine calls u (write_mapped m a v w)) e

-- over any calls, what the last accepted control write said
runs_since : (m : Machine) (calls : List Asked) → runs (after_every m calls) ≡ last_said (runs m) m calls
runs_since m [] = refl
runs_since m (call ∷ rest) = runs_since (after_asked m call) rest ∙ ap (λ (before : Bool). last_said before (after_asked m call) rest) (runs_by m call)

runs_from_beginning : (calls : List Asked) (m : Machine) → m ≡ after_every beginning calls → runs m ≡ last_said false beginning calls
unfolding zeros
runs_from_beginning calls m e = ap runs e ∙ runs_since beginning calls

-- what is read at #0C0 to #0C2 is the three words
pub words_read : (m : Machine) → (answered m 0x0C0).refusal ≡ 0 → checksums_read m ≡ checksum_words m.generator.sums
unfolding answered place_of read_refusal value_at checksum_words run
words_read m e = simp (eq-eqb _ 0 e)

-- and each holds its byte of the three sums
words_are : (m : Machine) (k : ℕ) → k < 3 → (answered m (0x0C0 + k)).refusal ≡ 0 →
    (answered m (0x0C0 + k)).value ≡ joined (byte_of k m.generator.sums.red) (byte_of k m.generator.sums.green) (byte_of k m.generator.sums.blue)
unfolding answered place_of read_refusal value_at checksum_words run
words_are m zero l e = simp (eq-eqb _ 0 e)
words_are m (suc zero) l e = simp (eq-eqb _ 0 e)
words_are m (suc (suc zero)) l e = simp (eq-eqb _ 0 e)
words_are m (suc (suc (suc k))) l e = absurd (omega (arith, l))

lent_alike : (m : Machine) (memory : List ℕ) → ((tick_of m.regs memory m.generator).signals ≡ (advanced m memory).signals) × ((tick_of m.regs memory m.generator).next ≡ (advanced m memory).machine.generator)
unfolding advanced
lent_alike m memory = (refl, refl)

sums_apart : (m n : Machine) → SoundMachine m → SoundMachine n → (answered m 0x0C0).refusal ≡ 0 → (answered n 0x0C0).refusal ≡ 0 → checksums_read n ≡ checksums_read m → n.generator.sums ≡ m.generator.sums
sums_apart m n z y e f same =
    words_apart n.generator.sums m.generator.sums y.rolled.sums z.rolled.sums (sym (words_read n f) ∙ same ∙ words_read m e)

-- DEMAND 2
pub demand_2 : (calls : List Asked) (m : Machine) → m ≡ after_every beginning calls → Demand2 calls m
demand_2 calls m reached =
    let z = reached_sound calls m reached in
    record {
      running_since = runs_from_beginning calls m reached;
      running_by = runs_by m;
      starts_if = starts_if m;
      starts_only_if = starts_only_if m;
      starts_fresh = started_fresh m;
      leaves = write_leaves m;
      ticks = λ memory free. by_the_rules m memory free z;
      lent_alike = lent_alike m;
      read_leaves = read_same m;
      reads_back = back m z;
      line_start_unused = line_start_unused m;
      bits_unused = bits_unused m;
      palette_written = palette_written m;
      palettes_differ = palettes_differ m;
      sheet_back = read_front;
      sheet_same = written_read;
      rolled = z.rolled;
      checksums_read_back = words_are m;
      checksums_apart = λ others n met. sums_apart m n z (reached_sound others n met);
    }
