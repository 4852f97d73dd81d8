-- A run of bytes laid into a memory one by one. Assumes nothing.
use Prim.Native.Nat.{ℕ, suc, ◌+◌, ◌≤◌, ◌<◌}
use mathlib.Core.Path.{◌≡◌, refl, sym, ◌∙◌}
use mathlib.Core.List.{List, [], ◌∷◌, ◌++◌, append_assoc, append-nil}
use native.Mathlib.Nat.{zero-add}
use native.Mathlib.Numerals.{add-one}
use native.Mathlib.Omega.{arith}
use lib.ListN.{length, get_or, set, drop, length-append, length-drop, drop_of_length-le}
use lib.Seq.{drop-cons, set_at}
use Rattle.base.specs.Count.{run}
use Rattle.base.proofs.Run.{run_length, run_append}

module _ (byte : ℕ → ℕ) (memory : List ℕ) where
  pub laid_none : memory ≡ run byte 0 0 ++ drop 0 memory
  unfolding run
  laid_none = refl

  pub laid_next : (i b : ℕ) (now : List ℕ) → i < length memory → now ≡ run byte 0 i ++ drop i memory → b ≡ byte i → set now i b ≡ run byte 0 (i + 1) ++ drop (i + 1) memory
  unfolding run
  laid_next i b now h e f =
      rw (e, drop-cons memory i 0 h, set_at (run byte 0 i) (get_or memory i 0) (drop (suc i) memory) b i (run_length byte 0 i), run_append byte 0 i 1, zero-add i, f, add-one i)
      (sym (append_assoc (run byte 0 i) (byte i ∷ []) (drop (suc i) memory)))

  pub laid_length : (i : ℕ) → i ≤ length memory → length (run byte 0 i ++ drop i memory) ≡ length memory
  laid_length i h = rw (length-append, run_length, length-drop) (omega arith)

-- a whole list laid over another of its length
pub laid_all : (byte : ℕ → ℕ) (room now : List ℕ) (i : ℕ) → length room ≤ i → now ≡ run byte 0 i ++ drop i room → now ≡ run byte 0 i
laid_all byte room now i h e = e ∙ rw (drop_of_length-le room h) (append-nil (run byte 0 i))
