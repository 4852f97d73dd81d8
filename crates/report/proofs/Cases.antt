-- What is shown on a page, case by case. Assumes nothing.
use Prim.Native.Nat.{ℕ}
use mathlib.Core.List.{[], ◌∷◌}
use mathlib.Core.Path.{◌≡◌}
use lib.Dec.{eqb}
use borrow.Author.Tests.{eq-eqb, ne_eqb}
use Rattle.text.specs.Ascii.{ascii}
use Rattle.report.specs.Notes.{refused_texts}
use Rattle.report.specs.TickLines.{tick_line_texts}
use Rattle.waveform.specs.Waveform.{tick_texts}
use Rattle.signals.specs.declared.Signals.{Signals}
use Rattle.report.specs.declared.Page.{Page}
use Rattle.report.specs.Pages.{verdict_texts, step_texts}

module _ (p : Page) (s : Signals) where
  pub step_line : p.form ≡ 0 → step_texts p s ≡ tick_line_texts s
  unfolding step_texts
  step_line h = simp (eq-eqb p.form 0 h)

  module _ (n : p.form ≡ 0 → ⊥) where
    pub step_wave : p.form ≡ 1 → step_texts p s ≡ tick_texts (eqb p.ticks 0) p.ticks p.last s
    unfolding step_texts
    step_wave h = simp (ne_eqb p.form 0 n, eq-eqb p.form 1 h)

    pub step_none : (p.form ≡ 1 → ⊥) → step_texts p s ≡ []
    unfolding step_texts
    step_none h = simp (ne_eqb p.form 0 n, ne_eqb p.form 1 h)

module _ (form line refusal : ℕ) where
  pub verdict_refused : (refusal ≡ 0 → ⊥) → verdict_texts form line refusal ≡ refused_texts form line refusal
  unfolding verdict_texts
  verdict_refused h = simp (ne_eqb refusal 0 h)

  pub verdict_good : refusal ≡ 0 → form ≡ 0 → verdict_texts form line refusal ≡ ascii "ok\n" ∷ []
  unfolding verdict_texts
  verdict_good h k = simp (eq-eqb refusal 0 h, eq-eqb form 0 k)

  pub verdict_none : refusal ≡ 0 → (form ≡ 0 → ⊥) → verdict_texts form line refusal ≡ []
  unfolding verdict_texts
  verdict_none h k = simp (eq-eqb refusal 0 h, ne_eqb form 0 k)
