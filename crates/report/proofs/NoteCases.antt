-- A refusal where answers are not what is written. Assumes nothing.
use Prim.Native.Nat.{ℕ}
use mathlib.Core.List.{[], ◌∷◌, ◌++◌}
use mathlib.Core.Path.{◌≡◌}
use borrow.Author.Tests.{ne_eqb}
use Rattle.text.specs.Ascii.{ascii}
use Rattle.text.specs.Decimal.{decimal_text}
use Rattle.report.specs.Notes.{close_text, head_texts, refused_texts}

pub refused_note : (form line refusal : ℕ) → (form ≡ 0 → ⊥) → refused_texts form line refusal ≡ head_texts form line ++ (ascii "refused " ∷ decimal_text refusal ∷ close_text form ∷ [])
unfolding refused_texts
refused_note form line refusal h = simp (ne_eqb form 0 h)
