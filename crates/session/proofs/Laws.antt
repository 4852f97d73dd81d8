-- What a line does, case by case. Assumes nothing.
use Prim.Native.Nat.{ℕ}
use mathlib.Core.Bool.{Bool, true, false, true≢false}
use mathlib.Core.List.{List}
use mathlib.Core.Path.{◌≡◌, refl, sym, ap, ◌∙◌}
use lib.ListN.{length, take}
use borrow.Author.Tests.{eq-eqb, ne_eqb}
use Rattle.machine.specs.Rules.{beginning}
use Rattle.machine.specs.declared.Machine.{Machine}
use Rattle.script.specs.declared.command.Command.{Command}
use Rattle.script.specs.Names.{kind_of, by_kind}
use Rattle.script.specs.declared.names.Kind.{Kind}
use Rattle.script.specs.declared.names.Kind.TheVariants.{WritesRegister, ChangesMemory, RunsTicks, DrawsPicture, OnlyAsks}
use Rattle.script.specs.Script.{skipped, line_command, ticks_of}
use Rattle.changes.specs.declared.Done.{Done}
use Rattle.changes.specs.Changes.{run_done}
use Rattle.changes.proofs.Laws.{Does, does_tick}
use Rattle.session.specs.Shows.{shows_ticks}
use Rattle.session.specs.Session.{first_done, line_done, line_memory, line_picture}

-- before a script's first line
pub first_done_lem : (m : Machine) → m ≡ beginning → ◌≡◌ {A = Done} (record { refusal = 0; ticks = 0; memory = 0; machine = m }) first_done
first_done_lem m e = rw e refl

-- ticks are shown only where a command runs some
pub shown_runs : (k : Kind) (b : Bool) → by_kind k false false b false false ≡ true → RunsTicks ≡ k
shown_runs WritesRegister b h = absurd (true≢false (sym h))
shown_runs ChangesMemory b h = absurd (true≢false (sym h))
shown_runs RunsTicks b h = refl
shown_runs DrawsPicture b h = absurd (true≢false (sym h))
shown_runs OnlyAsks b h = absurd (true≢false (sym h))

-- ticks shown, with a part of the memory that is the bytes lent, are what the command does
pub shown_does : (c : Command) (m : Machine) (lent : ℕ) (memory picture part : List ℕ) → part ≡ take lent memory → (count : ℕ) → count ≡ ticks_of c → (form : ℕ) → shows_ticks form c.name ≡ true → (d : Done) → d ≡ run_done m lent part count → Does c m lent memory picture d memory picture
shown_does c m lent memory picture part eb count ec form h d e =
    let t = does_tick c m lent memory picture (shown_runs (kind_of c.name) _ h) in
    (e ∙ ap (λ (b : List ℕ). run_done m lent b count) eb ∙ ap (run_done m lent (take lent memory)) ec ∙ sym t.0, t.1)

-- what a line leaves
module _ (line : List ℕ) (d : Done) (memory picture : List ℕ) where
  abbrev pub LineLeaves : Done → List ℕ → List ℕ → Type 0
  LineLeaves n bytes colours = (n ≡ line_done line d memory (length picture)) × ((bytes ≡ line_memory line d memory) × (colours ≡ line_picture line d memory picture))

  pub skipped_leaves : (b : Bool) → b ≡ skipped line → b ≡ true → LineLeaves d memory picture
  skipped_leaves b e h = let s = sym e ∙ h in (rw s refl, (rw s refl, rw s refl))

  module _ (b : Bool) (e : b ≡ skipped line) (h : b ≡ false) (c : Command) (ec : c ≡ line_command line d.memory) where
    pub faulty_leaves : (c.fault ≡ 0 → ⊥) → LineLeaves d memory picture
    faulty_leaves z =
        let s = sym e ∙ h in
        let f = ne_eqb c.fault 0 z in
        (rw (s, ← ec, f) refl, (rw (s, ← ec, f) refl, rw (s, ← ec, f) refl))

    pub good_leaves : c.fault ≡ 0 → (n : Done) (bytes colours : List ℕ) → Does c d.machine d.memory memory picture n bytes colours → LineLeaves n bytes colours
    good_leaves z n bytes colours t =
        let s = sym e ∙ h in
        let f = eq-eqb c.fault 0 z in
        (rw (s, ← ec, f) t.0, (rw (s, ← ec, f) t.1.0, rw (s, ← ec, f) t.1.1))
