-- What callers know of a store, for every place. Assumes nothing.
use Prim.Native.Nat.{ℕ, ◌≤◌, ◌<◌}
use mathlib.Core.Path.{◌≡◌, refl, sym, ap, subst, ◌∙◌}
use mathlib.Core.Bool.{true, false, true≢false}
use mathlib.Core.List.{List, []}
use mathlib.Core.Logic.{◌⊎◌, inl, inr, ⊎_elim}
use native.Mathlib.Omega.{arith}
use lib.ListN.{length, get_or, set, length-set, length-replicate}
use lib.Seq.{get_or-set_same, get_or-set_other}
use borrow.Author.Tests.{eqb-false}
use Rattle.registers.specs.declared.map.Place.{Place}
use Rattle.registers.specs.declared.map.Place.TheVariants.{Reserved, Parameter, Mask, Control, Top, Colour, Checksum, Position, Palette, Store}
use Rattle.registers.specs.declared.Registers.{Registers}
use Rattle.registers.specs.Map.{place_of, row_of, number_in_row, is_parameter, is_control, is_checksum, is_store, is_reserved, widest, Storable}
use Rattle.registers.specs.File.{zeros, rows, row_in, value_in, kept_at, store_in, InWidths}
use Rattle.registers.proofs.map.Cases.{equal, apart, Found, found}
use Rattle.registers.proofs.map.Laws.{is_control_lem}
use Rattle.registers.proofs.Cases.{set_row, set_bound, zero_at, fitted, rows_stored}

module _ (r : Registers) (p : Place) (v : ℕ) where
  -- the place's own row has the value, and every other row stands
  row_stored : row_in (store_in r p v) p ≡ set (row_in r p) (number_in_row p) (kept_at p v)
  row_stored = ap (λ (l : List (List ℕ)). get_or l (row_of p) []) (rows_stored r p v) ∙ set_row (rows r) (row_of p) (number_in_row p) (kept_at p v)

  value_stored : value_in (store_in r p v) p ≡ get_or (set (row_in r p) (number_in_row p) (kept_at p v)) (number_in_row p) 0
  unfolding value_in
  value_stored = ap (λ (l : List ℕ). get_or l (number_in_row p) 0) row_stored

  pub row_kept : (i : ℕ) → (i ≡ row_of p → ⊥) → get_or (rows (store_in r p v)) i [] ≡ get_or (rows r) i []
  row_kept i d = ap (λ (l : List (List ℕ)). get_or l i []) (rows_stored r p v) ∙ get_or-set_other (rows r) (row_of p) i _ [] d

  -- no row changes its length
  row_length : (i : ℕ) → length (get_or (rows (store_in r p v)) i []) ≡ length (get_or (rows r) i [])
  row_length i =
      ⊎_elim
      (λ e. rw e (ap length row_stored ∙ length-set (row_in r p) (number_in_row p) (kept_at p v)))
      (λ d. ap length (row_kept i d))
      (equal i (row_of p) _ refl)

  kept_apart : (q : Place) → (row_of q ≡ row_of p → ⊥) ⊎ ((row_of q ≡ row_of p) × (number_in_row q ≡ number_in_row p → ⊥)) → value_in (store_in r p v) q ≡ value_in r q
  unfolding value_in
  kept_apart q (inl d) = ap (λ (l : List ℕ). get_or l (number_in_row q) 0) (row_kept (row_of q) d)
  kept_apart q (inr d) =
      rw d.0
      (ap (λ (l : List ℕ). get_or l (number_in_row q) 0) row_stored ∙ get_or-set_other (row_in r p) (number_in_row p) (number_in_row q) (kept_at p v) 0 d.1)

  -- a store leaves what stands at every other place
  pub kept : (q : Place) → (q ≡ p → ⊥) → value_in (store_in r p v) q ≡ value_in r q
  kept q d = ⊎_elim (λ e. absurd (d e)) (kept_apart q) (apart p q)

  -- control A and the parameters after a store
  pub control_stored : is_control p ≡ true → (store_in r p v).control ≡ v
  unfolding store_in
  control_stored e = rw (is_control_lem p e)

  pub control_kept : is_control p ≡ false → (store_in r p v).control ≡ r.control
  unfolding value_in
  control_kept e = kept Control (λ d. true≢false (ap is_control d ∙ e))

  pub params_kept : is_parameter p ≡ false → (store_in r p v).params ≡ r.params
  params_kept e = row_kept 0 (λ i. eqb-false (row_of p) 0 e (sym i))

-- the file begins as every register file is
pub zeros_in_widths : InWidths zeros
unfolding zeros
zeros_in_widths =
    record {
      params_length = length-replicate {A = ℕ} 14 0;
      colours_length = length-replicate {A = ℕ} 3 0;
      palette_length = length-replicate {A = ℕ} 256 0;
      store_length = length-replicate {A = ℕ} 512 0;
      params = λ k. omega (arith, zero_at 14 k);
      mask = omega arith;
      control = omega arith;
      top = omega arith;
      colours = λ k. omega (arith, zero_at 3 k);
      position = omega arith;
      palette = λ k. omega (arith, zero_at 256 k);
      store = λ k. omega (arith, zero_at 512 k);
    }

-- each value is within its place's width
within : (r : Registers) → InWidths r → (q : Place) → value_in r q ≤ widest q
unfolding value_in
within r h Reserved = omega arith
within r h (Parameter k) = h.params k
within r h Mask = h.mask
within r h Control = h.control
within r h Top = h.top
within r h (Colour k) = h.colours k
within r h (Checksum k) = omega arith
within r h Position = h.position
within r h (Palette k) = h.palette k
within r h (Store k) = h.store k

-- the number of a place of the map is below its row's length
fits : (r : Registers) (a : ℕ) (p : Place) → InWidths r → Found a p → is_reserved p ≡ false → is_checksum p ≡ false → number_in_row p < length (row_in r p)
fits r a Reserved h f s t = absurd (true≢false s)
fits r a (Parameter k) h f s t = omega (arith, h.params_length, f.address, f.high)
fits r a Mask h f s t = omega arith
fits r a Control h f s t = omega arith
fits r a Top h f s t = omega arith
fits r a (Colour k) h f s t = omega (arith, h.colours_length, f.address, f.high)
fits r a (Checksum k) h f s t = absurd (true≢false t)
fits r a Position h f s t = omega arith
fits r a (Palette k) h f s t = omega (arith, h.palette_length, f.address, f.high)
fits r a (Store k) h f s t = omega (arith, h.store_length, f.address, f.high)

stored_bound : (r : Registers) (p : Place) (v most : ℕ) → value_in r p ≤ most → kept_at p v ≤ most → value_in (store_in r p v) p ≤ most
unfolding value_in
stored_bound r p v most h b = subst (λ (n : ℕ). n ≤ most) (sym (value_stored r p v)) (set_bound (row_in r p) (number_in_row p) (kept_at p v) most h b)

bounded : (r : Registers) (p : Place) (v : ℕ) → InWidths r → Storable p v → (q : Place) → value_in (store_in r p v) q ≤ widest q
bounded r p v h s q =
    ⊎_elim
    (λ e. rw e (stored_bound r p v (widest p) (within r h p) (omega (arith, s.narrow, fitted (is_store p) v s.narrow))))
    (λ d. rw (kept_apart r p v q d) (within r h q))
    (apart p q)

-- a store of a value that its place holds keeps all that
pub stored_in_widths : (r : Registers) (p : Place) (v : ℕ) → InWidths r → Storable p v → InWidths (store_in r p v)
unfolding value_in
stored_in_widths r p v h s =
    let bound : (q : Place) → value_in (store_in r p v) q ≤ widest q = bounded r p v h s in
    record {
      params_length = row_length r p v 0 ∙ h.params_length;
      colours_length = row_length r p v 4 ∙ h.colours_length;
      palette_length = row_length r p v 7 ∙ h.palette_length;
      store_length = row_length r p v 8 ∙ h.store_length;
      params = λ k. bound (Parameter k);
      mask = bound Mask;
      control = bound Control;
      top = bound Top;
      colours = λ k. bound (Colour k);
      position = bound Position;
      palette = λ k. bound (Palette k);
      store = λ k. bound (Store k);
    }

-- what was stored at an address of the map stands there
pub back : (r : Registers) (a v : ℕ) → InWidths r → Storable (place_of a) v → is_reserved (place_of a) ≡ false → is_checksum (place_of a) ≡ false → value_in (store_in r (place_of a) v) (place_of a) ≡ v
back r a v h s t u =
    let p = place_of a in
    value_stored r p v
    ∙ get_or-set_same (row_in r p) (number_in_row p) (kept_at p v) 0 (fits r a p h (found a t) t u)
    ∙ fitted (is_store p) v s.narrow
