-- The segments of a field: what fits, where their places and colours stand, and that they join. Assumes nothing.
use Prim.Native.Nat.{ℕ, zero, suc, ◌+◌, ◌-◌, ◌*◌, ◌/◌, ◌%◌, ◌≤◌, ◌<◌}
use mathlib.Core.Bool.{Bool, ◌||◌, or_assoc, or-false}
use mathlib.Core.List.{List}
use mathlib.Core.Path.{◌≡◌, sym, ap}
use native.Mathlib.Nat.{div-eq_of_lt-le, div-add-mod', zero-add, add-zero, add-suc}
use native.Mathlib.Omega.{arith}
use Rattle.base.specs.Count.{some, run}
use Rattle.base.proofs.Run.{run_same}
use Rattle.memory.specs.Memory.{ends_beyond}
use Rattle.pixel.specs.declared.Sums.{Sums}
use Rattle.memory.proofs.Laws.{ends_beyond_later}
use Rattle.picture.specs.Stretch.{Small}
use Rattle.picture.specs.Span.{Painted, Through, covered_colour, Covered}
use Rattle.picture.specs.Plan.{address_in, place_in, colour_in, Cut}
use Rattle.picture.specs.declared.plan.Plan.{Plan}
use Rattle.picture.specs.declared.stretch.Stretch.{Stretch}
use Rattle.picture.proofs.span.Spans.{painted_on}
use Rattle.base.proofs.Bools.{or_second}

-- j on inside one turn of d
div_on : (d v j : ℕ) → v % d + j < d → (v + j) / d ≡ v / d
div_on d v j p = div-eq_of_lt-le d (omega (arith, div-add-mod' v d)) (omega (arith, div-add-mod' v d))

mod_on : (d v j : ℕ) → v % d + j < d → (v + j) % d ≡ v % d + j
mod_on d v j p = omega (arith, div-add-mod' v d, div-add-mod' (v + j) d, ap (λ (n : ℕ). n * d) (div_on d v j p))

-- the place of the first pixel of visible tick v
pub place_by : (p : Plan) (v address : ℕ) → address ≡ address_in p v → (address / p.divisor * p.row + v % p.row) * 4 ≡ place_in p (4 * v)
unfolding place_in
place_by p v address e =
    let a : 4 * v / 4 ≡ v = omega arith in
    let b : 4 * v % 4 ≡ 0 = omega arith in
    simp (a, b, add-zero, e)

some_append : (test : ℕ → Bool) (a n : ℕ) → some test (a + n) ≡ (some test a || some (λ k. test (a + k)) n)
unfolding some
some_append test a zero = rw add-zero (sym (or-false (some test a)))
some_append test a (suc n) = rw (add-suc, some_append test a n, or_assoc)

-- of numbers whose places are a run, one ends beyond the memory where the last does
some_last : (bits : ℕ) (m : List ℕ) (place : ℕ → ℕ) (from n : ℕ) → ((k : ℕ) → k < suc n → place k ≡ from + k) → some (λ k. ends_beyond bits m (place k)) (suc n) ≡ ends_beyond bits m (from + n)
unfolding some
some_last bits m place from zero h = ap (ends_beyond bits m) (h 0 (omega arith))
some_last bits m place from (suc n) h =
    rw (some_last bits m place from n (λ k l. h k (omega arith)), h (suc n) (omega arith))
    (or_second _ _ (λ e. ends_beyond_later bits m (from + n) (from + suc n) (omega arith) e))

module _ (p : Plan) (v : ℕ) (s : Stretch) (c : Cut p v s) where
  -- the places of a segment are a run of places
  place_on : (k : ℕ) → k < s.count → place_in p (4 * v + k) ≡ s.from + k
  unfolding place_in address_in
  place_on k l =
      let t : (4 * v + k) / 4 ≡ v + k / 4 = omega arith in
      let t' : 4 * v / 4 ≡ v = omega arith in
      let m : (4 * v + k) % 4 ≡ k % 4 = omega arith in
      let m' : 4 * v % 4 ≡ 0 = omega arith in
      let r : v % p.row + k / 4 < p.row = omega (arith, c.in_row, c.count) in
      simp (c.from, t, t', m, m', div_on p.row v (k / 4) r, mod_on p.row v (k / 4) r) (omega arith)

  all : 4 * (v + s.count / 4) ≡ 4 * v + s.count
  all = omega (arith, c.count)

  -- one more segment of the places looked through
  pub beyond_more : (bits : ℕ) (memory : List ℕ) (beyond far : Bool) → beyond ≡ some (λ i. ends_beyond bits memory (place_in p i)) (4 * v) → far ≡ ends_beyond bits memory (s.from + s.count - 1) →
      (beyond || far) ≡ some (λ i. ends_beyond bits memory (place_in p i)) (4 * (v + s.count / 4))
  beyond_more bits memory beyond far e f =
      let n = s.count - 1 in
      let more : 4 * v + s.count ≡ 4 * v + suc n = omega (arith, c.some) in
      let last : s.from + s.count - 1 ≡ s.from + n = omega (arith, c.some) in
      sym (rw (all, more, some_append, some_last bits memory (λ k. place_in p (4 * v + k)) s.from n (λ k l. place_on k (omega (arith, c.some))), ← last, ← e, ← f))

  -- a segment fits the picture's buffer
  pub segment_small : (size : ℕ) → 12 * (p.before + p.visible) ≤ size → Small s size
  segment_small size h =
      record { bytes = omega (arith, c.at, c.count, c.in_field); columns = omega (arith, c.column_most); places = omega (arith, c.from_most, c.column_most) }

  -- one more segment painted
  module _ (through : Through) where
    abbrev covered : ℕ → ℕ
    covered = covered_colour through s

    colour_on : (j : ℕ) → j < s.count → colour_in p through (4 * v + j) ≡ covered (0 + j)
    unfolding colour_in covered_colour
    colour_on j l =
        let t : (4 * v + j) / 4 + p.lead ≡ v + p.lead + j / 4 = omega arith in
        let r : (v + p.lead) % p.display + j / 4 < p.display = omega (arith, c.in_line, c.count) in
        let x : 4 * (((4 * v + j) / 4 + p.lead) % p.display) + (4 * v + j) % 4 ≡ s.x + j = rw (t, mod_on p.display (v + p.lead) (j / 4) r) (omega (arith, c.column)) in
        let y : ((4 * v + j) / 4 + p.lead) / p.display ≡ s.y = rw (t, div_on p.display (v + p.lead) (j / 4) r) (sym c.line) in
        rw (zero-add, x, y, place_on j l)

    pub painted_rows : {b : List ℕ} {t : Sums} {b' : List ℕ} {t' : Sums} {b'' : List ℕ} {t'' : Sums} →
        Painted b (12 * p.before) t (run (colour_in p through) 0 (4 * v)) b' t' → Covered through s b' t' b'' t'' → Painted b (12 * p.before) t (run (colour_in p through) 0 (4 * (v + s.count / 4))) b'' t''
    painted_rows d e =
        let f = colour_in p through in
        let same : run f (0 + 4 * v) s.count ≡ run covered 0 s.count = rw zero-add (run_same f covered (4 * v) 0 s.count colour_on) in
        rw all (painted_on {k = s.at} f 0 (4 * v) s.count d (omega (arith, c.at)) (rw same e))
