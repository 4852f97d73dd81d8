-- What is found out, by what was asked. Assumes nothing.
use Prim.Native.Nat.{ℕ}
use mathlib.Core.Bool.{cond}
use mathlib.Core.List.{[], ◌∷◌, ◌++◌}
use mathlib.Core.Path.{◌≡◌, ap, sym}
use borrow.Author.Tests.{eq-eqb, ne_eqb}
use lib.ListN.{get_or}
use Rattle.text.specs.Ascii.{ascii}
use Rattle.text.specs.Hex.{hex_text}
use Rattle.text.specs.Lines.{line_end, count_texts}
use Rattle.text.specs.Rows.{values_texts}
use Rattle.sheet.specs.declared.Sheet.{Sheet}
use Rattle.sheet.specs.declared.field.Answer.{Answer}
use Rattle.vault.specs.declared.Comparison.{Comparison}
use Rattle.machine.specs.Rules.{answered}
use Rattle.machine.specs.declared.Machine.{Machine}
use Rattle.machine.specs.declared.Answered.{Answered}
use Rattle.calls.specs.Nine.{nine_of}
use Rattle.calls.specs.declared.Checksums.{Checksums}
use Rattle.script.specs.declared.command.Command.{Command}
use Rattle.report.specs.Phrases.{colour_texts}
use Rattle.questions.specs.Questions.{read_texts, nine_texts, sheet_asked, sheet_texts, field_asked, field_texts, compare_asked, compare_texts, by_name, find_refusal, find_texts}

-- the texts of an answer, by what a call answered
pub read_shown : (m : Machine) (address : ℕ) (a : Answered) → a ≡ answered m address → read_texts m address ≡ hex_text a.value ∷ line_end ∷ []
unfolding read_texts
read_shown m address a e = ap (λ x. hex_text x.value ∷ line_end ∷ []) (sym e)

pub nine_shown : (m : Machine) (n : Checksums) → n ≡ nine_of m → nine_texts m ≡ hex_text (get_or n.words 0 0) ∷ (colour_texts (get_or n.words 1 0) ++ (colour_texts (get_or n.words 2 0) ++ (line_end ∷ [])))
unfolding nine_texts
nine_shown m n e =
    ap (λ x. hex_text (get_or x.words 0 0) ∷ (colour_texts (get_or x.words 1 0) ++ (colour_texts (get_or x.words 2 0) ++ (line_end ∷ [])))) (sym e)

pub sheet_shown : (c : Command) (s : Sheet) → s ≡ sheet_asked c → sheet_texts c ≡ ascii "ok" ∷ values_texts s.values
unfolding sheet_texts
sheet_shown c s e = ap (λ x. ascii "ok" ∷ values_texts x.values) (sym e)

pub field_shown : (c : Command) (a : Answer) → a ≡ field_asked c → field_texts c ≡ count_texts [] a.value
unfolding field_texts
field_shown c a e = ap (λ x. count_texts [] x.value) (sym e)

pub compare_shown : (c : Command) (a : Comparison) → a ≡ compare_asked c → compare_texts c ≡ cond a.equal (ascii "same\n") (ascii "different\n") ∷ []
unfolding compare_texts
compare_shown c a e = ap (λ x. cond x.equal (ascii "same\n") (ascii "different\n") ∷ []) (sym e)

-- what a command finds out, by its name
module _ {A : Type 0} (name : ℕ) (read nine sheet field compare : A) where
  by_read : name ≡ 1 → by_name name read nine sheet field compare ≡ read
  unfolding by_name
  by_read h = simp (eq-eqb name 1 h)

  module _ (n1 : name ≡ 1 → ⊥) where
    by_nine : name ≡ 8 → by_name name read nine sheet field compare ≡ nine
    unfolding by_name
    by_nine h = simp (ne_eqb name 1 n1, eq-eqb name 8 h)

    module _ (n2 : name ≡ 8 → ⊥) where
      by_sheet : name ≡ 9 → by_name name read nine sheet field compare ≡ sheet
      unfolding by_name
      by_sheet h = simp (ne_eqb name 1 n1, ne_eqb name 8 n2, eq-eqb name 9 h)

      module _ (n3 : name ≡ 9 → ⊥) where
        by_field : name ≡ 10 → by_name name read nine sheet field compare ≡ field
        unfolding by_name
        by_field h = simp (ne_eqb name 1 n1, ne_eqb name 8 n2, ne_eqb name 9 n3, eq-eqb name 10 h)

        by_compare : (name ≡ 10 → ⊥) → by_name name read nine sheet field compare ≡ compare
        unfolding by_name
        by_compare h = simp (ne_eqb name 1 n1, ne_eqb name 8 n2, ne_eqb name 9 n3, ne_eqb name 10 h)

module _ (c : Command) (m : Machine) where
  pub find_read : c.name ≡ 1 → (find_refusal c m ≡ (answered m (get_or c.left.values 0 0)).refusal) × (find_texts c m ≡ read_texts m (get_or c.left.values 0 0))
  unfolding find_refusal find_texts
  find_read h = (by_read _ _ _ _ _ _ h, by_read _ _ _ _ _ _ h)

  module _ (n1 : c.name ≡ 1 → ⊥) where
    pub find_nine : c.name ≡ 8 → (find_refusal c m ≡ (nine_of m).refusal) × (find_texts c m ≡ nine_texts m)
    unfolding find_refusal find_texts
    find_nine h = (by_nine _ _ _ _ _ _ n1 h, by_nine _ _ _ _ _ _ n1 h)

    module _ (n2 : c.name ≡ 8 → ⊥) where
      pub find_sheet : c.name ≡ 9 → (find_refusal c m ≡ (sheet_asked c).refusal) × (find_texts c m ≡ sheet_texts c)
      unfolding find_refusal find_texts
      find_sheet h = (by_sheet _ _ _ _ _ _ n1 n2 h, by_sheet _ _ _ _ _ _ n1 n2 h)

      module _ (n3 : c.name ≡ 9 → ⊥) where
        pub find_field : c.name ≡ 10 → (find_refusal c m ≡ (field_asked c).refusal) × (find_texts c m ≡ field_texts c)
        unfolding find_refusal find_texts
        find_field h = (by_field _ _ _ _ _ _ n1 n2 n3 h, by_field _ _ _ _ _ _ n1 n2 n3 h)

        pub find_compare : (c.name ≡ 10 → ⊥) → (find_refusal c m ≡ (compare_asked c).refusal) × (find_texts c m ≡ compare_texts c)
        unfolding find_refusal find_texts
        find_compare h = (by_compare _ _ _ _ _ _ n1 n2 n3 h, by_compare _ _ _ _ _ _ n1 n2 n3 h)
