-- Painting one stretch of colours after another is painting both. Assumes nothing.
use Prim.Native.Nat.{ℕ, suc, ◌+◌, ◌-◌, ◌*◌, ◌≤◌, ◌<◌}
use mathlib.Core.List.{List, [], ◌∷◌, ◌++◌, append-nil, append_assoc}
use mathlib.Core.Path.{◌≡◌, refl, ap, ◌∙◌}
use native.Mathlib.Nat.{add-zero, zero-add, add-suc, suc-add}
use native.Mathlib.Omega.{arith}
use lib.ListN.{length, set, take, drop, replicate, length-take, length-drop, length-replicate}
use borrow.Rule.Slice.PartMut.{put_mid, mid_of}
use lib.Seq.{sets, sets-eq, length-sets, drop-length, drop-drop}
use Rattle.base.specs.Count.{run}
use Rattle.base.proofs.Run.{run_length, run_append, run_same}
use Rattle.base.specs.Channels.{red, green, blue}
use Rattle.pixel.specs.Sums.{summed}
use Rattle.pixel.specs.declared.Sums.{Sums}
use Rattle.pixel.proofs.Laws.{summed_join}
use Rattle.picture.specs.Span.{bytes_of, Painted, Through, uncovered_colour, colour_through, covered_colour}
use Rattle.cursor.specs.Cursor.{code_over}
use Rattle.picture.specs.Stretch.{Clipped}
use Rattle.picture.specs.declared.stretch.Columns.{Columns}
use Rattle.picture.specs.declared.stretch.Stretch.{Stretch}

-- stores in a row, and then further ones right behind, are the stores of both
sets_append : (l : List ℕ) (i : ℕ) (xs ys : List ℕ) → sets l i (xs ++ ys) ≡ sets (sets l i xs) (i + length xs) ys
sets_append l i [] ys = rw add-zero
sets_append l i (x ∷ xs) ys = rw (add-suc, ← suc-add) (sets_append (set l i x) (suc i) xs ys)

bytes_append : (a b : List ℕ) → bytes_of (a ++ b) ≡ bytes_of a ++ bytes_of b
unfolding bytes_of
bytes_append [] b = refl
bytes_append (colour ∷ a) b = ap (λ (l : List ℕ). red colour ∷ green colour ∷ blue colour ∷ l) (bytes_append a b)

bytes_length : (colours : List ℕ) → length (bytes_of colours) ≡ 3 * length colours
unfolding bytes_of
bytes_length [] = refl
bytes_length (colour ∷ rest) = omega (arith, bytes_length rest)

pub painted_none : (b : List ℕ) (at : ℕ) (s : Sums) → Painted b at s [] b s
unfolding bytes_of summed
painted_none b at s = record { stored = refl; added = refl }

module _ {b : List ℕ} {at : ℕ} {s : Sums} {xs : List ℕ} {b' : List ℕ} {s' : Sums} (p : Painted b at s xs b' s') where
  pub painted_length : length b' ≡ length b
  painted_length = ap length p.stored ∙ length-sets b at (bytes_of xs)

  -- further colours right behind
  pub painted_then : {k : ℕ} {ys : List ℕ} {b'' : List ℕ} {s'' : Sums} → k ≡ at + 3 * length xs → Painted b' k s' ys b'' s'' → Painted b at s (xs ++ ys) b'' s''
  painted_then e q =
      let n : _ ≡ at + length (bytes_of xs) = e ∙ omega (arith, bytes_length xs) in
      record {
        stored = q.stored ∙ rw (p.stored, n, bytes_append, sets_append);
        added = q.added ∙ rw (p.added, summed_join);
      }

-- a run is painted, and its next stretch behind it
pub painted_on : {b : List ℕ} {at : ℕ} {s : Sums} {b' : List ℕ} {s' : Sums} {k : ℕ} {b'' : List ℕ} {s'' : Sums} (f : ℕ → ℕ) (from i n : ℕ) →
    Painted b at s (run f from i) b' s' → k ≡ at + 3 * i → Painted b' k s' (run f (from + i) n) b'' s'' → Painted b at s (run f from (i + n)) b'' s''
painted_on f from i n p e q = rw run_append (painted_then p (omega (arith, run_length f from i)) q)

-- a turn of a loop that paints, where the run is counted from a number on
pub painted_turn : {b : List ℕ} {at : ℕ} {s : Sums} {b' : List ℕ} {s' : Sums} {k : ℕ} {b'' : List ℕ} {s'' : Sums} (f : ℕ → ℕ) (a i : ℕ) → a ≤ i →
    Painted b at s (run f a (i - a)) b' s' → k + 3 * a ≡ at + 3 * i → Painted b' k s' (f i ∷ []) b'' s'' → Painted b at s (run f a (i + 1 - a)) b'' s''
unfolding run
painted_turn {b} {at} {s} {b'} {s'} {k} f a i l p e q =
    let n : i + 1 - a ≡ i - a + 1 = omega arith in
    let j : a + (i - a) ≡ i = omega arith in
    rw n (painted_on {k = k} f a (i - a) 1 p (omega arith) (rw j q))

-- colours stored from a buffer's first byte to its last are all that it holds
pub stored_all : (b colours : List ℕ) → length b ≡ 3 * length colours → sets b 0 (bytes_of colours) ≡ bytes_of colours
stored_all b colours e =
    let all : length (bytes_of colours) ≡ length b = omega (arith, bytes_length colours) in
    sets-eq (bytes_of colours) b 0 (omega arith) ∙ simp (zero-add, all, drop-length) (append-nil (bytes_of colours))

-- and so are some and then others right behind
pub stored_both : (b : List ℕ) (xs ys : List ℕ) (at : ℕ) → at ≡ 3 * length xs → length b ≡ 3 * length (xs ++ ys) → sets (sets b 0 (bytes_of xs)) at (bytes_of ys) ≡ bytes_of (xs ++ ys)
stored_both b xs ys at e n =
    let k : at ≡ 0 + length (bytes_of xs) = omega (arith, bytes_length xs) in
    rw (k, ← sets_append, ← bytes_append) (stored_all b (xs ++ ys) n)

-- a part of the buffer filled with 0
pub fill_black : (b : List ℕ) (from n : ℕ) → from + n ≤ length b → (ys : List ℕ) → ys ≡ replicate (length (mid_of from n b)) 0 → put_mid from n b ys ≡ sets b from (replicate n 0)
fill_black b from n h ys e =
    let black : List ℕ = replicate n 0 in
    let long : length (mid_of from n b) ≡ n = simp (length-take, length-drop) (omega arith) in
    let all : length black ≡ n = length-replicate n 0 in
    let put : sets b from black ≡ take from b ++ black ++ drop (from + n) b = sets-eq black b from (omega arith) ∙ rw all in
    rw (e, long, drop-drop, put, append_assoc)

module _ (through : Through) (s : Stretch) where
  abbrev covered : ℕ → ℕ
  covered = covered_colour through s

  abbrev plain : ℕ → ℕ
  plain = uncovered_colour through.control through.table through.memory s.from

  -- where the cursor's code is 0, what is below shows
  plain_colour : (j : ℕ) → code_over through.control through.position through.store (s.x + j) s.y ≡ 0 → covered j ≡ plain j
  unfolding covered_colour colour_through
  plain_colour j e = rw e

  -- n pixels from a on that the cursor leaves alone
  plain_run : (a n : ℕ) → ((j : ℕ) → a ≤ j → j < a + n → code_over through.control through.position through.store (s.x + j) s.y ≡ 0) → run covered a n ≡ run plain a n
  plain_run a n h = run_same covered plain a a n (λ j l. plain_colour (a + j) (h (a + j) (omega arith) (omega arith)))

  -- a stretch in three parts
  pub painted_stretch : (c : Columns) → Clipped through.control through.position s c → {b : List ℕ} {t : Sums} {b₁ : List ℕ} {t₁ : Sums} {b₂ : List ℕ} {t₂ : Sums} {b₃ : List ℕ} {t₃ : Sums} →
      Painted b (s.at + 3 * 0) t (run plain 0 (c.left - 0)) b₁ t₁ →
      Painted b₁ (s.at + 3 * c.left) t₁ (run covered c.left (c.right - c.left)) b₂ t₂ →
      Painted b₂ (s.at + 3 * c.right) t₂ (run plain c.right (s.count - c.right)) b₃ t₃ → Painted b s.at t (run covered 0 s.count) b₃ t₃
  painted_stretch c k {b} {t} {b₁} {t₁} {b₂} {t₂} {b₃} {t₃} p q r =
      let l = c.left in
      let h = c.right in
      let z : s.at + 3 * 0 ≡ s.at = omega arith in
      let m₀ : l - 0 ≡ l = omega arith in
      let first : Painted b s.at t (run covered 0 l) b₁ t₁ = rw (plain_run 0 l (λ j _ i. k.before through.store j (omega arith))) (rw (z, m₀) at p) in
      let n : l + (h - l) ≡ h = omega (arith, k.order) in
      let amid : Painted b₁ (s.at + 3 * l) t₁ (run covered (0 + l) (h - l)) b₂ t₂ = rw zero-add q in
      let two : Painted b s.at t (run covered 0 h) b₂ t₂ = rw n at (painted_on covered 0 l (h - l) first refl amid) in
      let last : Painted b₂ (s.at + 3 * h) t₂ (run covered (0 + h) (s.count - h)) b₃ t₃ = rw (zero-add, plain_run h (s.count - h) (λ j g i. k.after through.store j g (omega (arith, k.end)))) r in
      let w : h + (s.count - h) ≡ s.count = omega (arith, k.end) in
      rw w at (painted_on covered 0 h (s.count - h) two refl last)
