-- What is shown, case by case, and line by line. Assumes nothing.
use Prim.Native.Nat.{ℕ, suc, ◌+◌, ◌-◌, ◌/◌, ◌<◌, min}
use mathlib.Core.Bool.{true, false}
use mathlib.Core.List.{List, ◌∷◌, ◌++◌}
use mathlib.Core.Path.{◌≡◌, ap, sym, ◌∙◌}
use native.Mathlib.Omega.{arith}
use borrow.Author.Tests.{eq-eqb, ne_eqb}
use lib.ListN.{length, take, drop, length-drop}
use Rattle.std.proofs.Math.Seq.{take-append_seam, drop-append_seam}
use Rattle.std.proofs.lemmas.List.{take_min, drop_min}
use Rattle.room.specs.Room.{put_texts, put_ends}
use Rattle.text.specs.Rows.{row_texts}
use Rattle.machine.specs.declared.Machine.{Machine}
use Rattle.script.specs.declared.command.Command.{Command}
use Rattle.paperwork.specs.Store.{stored_of}
use Rattle.report.specs.Pages.{turned, spaced}
use Rattle.report.specs.declared.Page.{Page}
use Rattle.questions.specs.Questions.{find_refusal, find_texts}
use Rattle.questions.specs.Answers.{shown_texts, is_brief, verdict_shown, rows_of, lines_of, lines_shown, rows_shown, bytes_shown, found_shown, answer_shown}

-- ---- rows

rows_left : (n : ℕ) → 0 < n → (n + 31) / 32 ≡ suc ((n - 32 + 31) / 32)
rows_left n h = omega arith

lines_next : (left : List ℕ) → 0 < length left → lines_of left ≡ row_texts (take 32 left) ∷ lines_of (drop 32 left)
unfolding lines_of rows_of
lines_next left h =
    let e : (length left + 31) / 32 ≡ suc ((length (drop 32 left) + 31) / 32) = rw length-drop (rows_left (length left) h) in
    ap (λ n. rows_of n left) e

rows_none : (p : Page) (room left : List ℕ) → length left ≡ 0 → rows_shown p room left ≡ record { page = p; bytes = room }
unfolding rows_shown lines_shown lines_of rows_of
rows_none p room left h = rw h

rows_next : (p : Page) (room left : List ℕ) → 0 < length left → rows_shown p room left ≡ rows_shown (turned p (put_ends room (spaced p) (row_texts (take 32 left)))) (put_texts room (spaced p) (row_texts (take 32 left))) (drop 32 left)
unfolding rows_shown lines_shown
rows_next p room left h = ap (lines_shown (record { page = p; bytes = room })) (lines_next left h)

-- one turn puts one line of what is left, and at the end none is
module _ (page : Page) (room left : List ℕ) where
  pub rows_again : (row rest : List ℕ) → left ≡ row ++ rest → length row ≡ min 32 (length left) → 0 < length left → (roomy turn : Page) (after : List ℕ) (end : ℕ) → roomy ≡ turned page (spaced page) → end ≡ put_ends room roomy.waiting (row_texts row) → after ≡ put_texts room roomy.waiting (row_texts row) → turn ≡ turned roomy end → rows_shown turn after rest ≡ rows_shown page room left
  rows_again row rest parts size some roomy turn after end s e f t =
      let first : take 32 left ≡ row = sym (take_min 32 left) ∙ rw (← size, parts) (take-append_seam row rest) in
      let others : drop 32 left ≡ rest = sym (drop_min 32 left) ∙ rw (← size, parts) (drop-append_seam row rest) in
      rw (t, e, f, s, ← first, ← others) (sym (rows_next page room left some))

  pub rows_all : length left ≡ 0 → rows_shown page room left ≡ record { page = page; bytes = room }
  rows_all h = rows_none page room left h

-- ---- bytes that were asked for

module _ (p : Page) (room : List ℕ) (refusal : ℕ) (bytes : List ℕ) where
  pub bytes_brief : is_brief p refusal ≡ true → bytes_shown p room refusal bytes ≡ verdict_shown p room refusal
  unfolding bytes_shown
  bytes_brief h = rw h

  pub bytes_long : (page : Page) (between : List ℕ) → page ≡ (verdict_shown p room refusal).page → between ≡ (verdict_shown p room refusal).bytes → is_brief p refusal ≡ false → bytes_shown p room refusal bytes ≡ rows_shown page between bytes
  unfolding bytes_shown
  bytes_long page between e f h = rw (h, e, f)

-- ---- answers

module _ (p : Page) (c : Command) (m : Machine) (room : List ℕ) where
  pub answer_store : c.name ≡ 11 → answer_shown p c m room ≡ bytes_shown p room (stored_of c).refusal (take (stored_of c).room (stored_of c).bytes)
  unfolding answer_shown
  answer_store h = rw (eq-eqb c.name 11 h)

  module _ (n : c.name ≡ 11 → ⊥) (refusal : ℕ) (e : refusal ≡ find_refusal c m) where
    found : answer_shown p c m room ≡ found_shown p room refusal (find_texts c m)
    unfolding answer_shown
    found = rw (ne_eqb c.name 11 n, e)

    pub answer_brief : (between : List ℕ) → between ≡ put_texts room p.waiting (find_texts c m) → is_brief p refusal ≡ true → answer_shown p c m room ≡ verdict_shown p between refusal
    unfolding found_shown
    answer_brief between f h = found ∙ rw (h, f)

    pub answer_long : is_brief p refusal ≡ false → answer_shown p c m room ≡ shown_texts p room (find_texts c m)
    unfolding found_shown
    answer_long h = found ∙ rw h
