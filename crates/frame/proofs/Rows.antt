-- What one tick does to the held address, the dots, the sums and the refusal, once its place in the field is known. Assumes nothing.
use Prim.Native.Nat.{ℕ, zero, suc, ◌+◌, ◌-◌, ◌*◌, ◌/◌, ◌%◌, ◌^◌, ◌≤◌, ◌<◌}
use mathlib.Core.Bool.{Bool, true, false, not, cond, ◌&&◌, true≢false}
use mathlib.Core.List.{List, map-append}
use mathlib.Core.Logic.{◌⊎◌}
use mathlib.Core.Path.{◌≡◌, refl, sym, ap, ◌∙◌}
use native.Mathlib.Nat.{mod-lt, mod-add-mod, div-eq_of_lt-le, div-add-mod', zero-div, zero-add}
use native.Mathlib.Omega.{arith}
use borrow.Author.Tests.{eqb-true, eqb-false, ltb-true, ltb-false}
use lib.Dec.{ltb, eqb}
use Rattle.base.specs.Sum.{rolled}
use Rattle.base.specs.Count.{some, run}
use Rattle.base.proofs.Run.{run_append, run_same}
use Rattle.control.specs.Control.{forced_blank, transferring, increment, pixel_bits}
use Rattle.units.specs.Parameters.{halves_to_vdisplay, row_length}
use Rattle.screen.specs.Limits.{Accepted}
use Rattle.screen.proofs.limits.Laws.{accepted_in}
use Rattle.registers.specs.declared.Registers.{Registers}
use Rattle.memory.specs.Memory.{ends_beyond}
use Rattle.signals.specs.Signals.{black, colours_of}
use Rattle.pixel.specs.Sums.{none, summed}
use Rattle.pixel.proofs.Laws.{summed_join}
use Rattle.lines.specs.Lines.{opens}
use Rattle.generator.specs.Rows.{screen, field_at, visible_at, shows, top_used, taken, transfer_at, held_address, place}
use Rattle.generator.specs.Tick.{dot_of, dots, refuses20, cleared, sums_after, seen_after}
use Rattle.generator.specs.Dark.{ticks_to_vdisplay}
use Rattle.generator.specs.declared.Generator.{Generator}
use Rattle.frame.specs.Frame.{row_address, address_at, place_at, dot_for, sums_to}
use Rattle.frame.proofs.Some.{some_same, some_four, some_and}
use Rattle.frame.proofs.Place.{AtTick, rows_some, first_seen, first_only}

-- v visible ticks reach into (v - 1) / n rows after the first
row_same : (n v : ℕ) → 0 < n → (v % n ≡ 0 → ⊥) → (v - 1) / n ≡ v / n
row_same n v p z =
    let m : v % n < n = mod-lt v p in
    div-eq_of_lt-le n (omega (arith, div-add-mod' v n)) (omega (arith, div-add-mod' v n))

row_next : (n v : ℕ) → 0 < n → 0 < v → v % n ≡ 0 → v / n ≡ (v - 1) / n + 1
row_next n v p q z = go (v / n) (div-add-mod' v n)
  where
    go : (k : ℕ) → k * n + v % n ≡ v → k ≡ (v - 1) / n + 1
    go zero e = absurd (omega arith)
    go (suc k) e =
        let d : (v - 1) / n ≡ k = div-eq_of_lt-le n (omega arith) (omega arith) in
        omega arith

module _ (r : Registers) (f : Bool) (ok : Accepted r.control (screen r)) (fits : top_used r f ≤ 0xFFFFFF) where
  first_row : top_used r f ≡ row_address r f 0
  unfolding row_address
  first_row = omega arith

  next_row : (j : ℕ) → rolled (row_address r f j) (increment r.control) ≡ row_address r f (j + 1)
  unfolding row_address
  next_row j = mod-add-mod (top_used r f + j * increment r.control) (2 ^ 24) (increment r.control) ∙ ap (λ (n : ℕ). n % 2 ^ 24) (omega arith)

  abbrev R : ℕ
  R = row_length (screen r)

  row_some : 0 < R
  row_some = rows_some r.control (screen r) ok

  module _ (g : Generator) (e : taken r g ≡ row_address r f ((g.seen.0 - 1) / R)) where
    abbrev v : ℕ
    v = g.seen.0

    -- at a visible tick the address held is its row's
    pub held_lit : visible_at r g ≡ true → held_address r g ≡ address_at r f v
    unfolding held_address transfer_at
    held_lit l = simp l (go (eqb (v % R) 0) refl (ltb 0 v) refl)
      where
        go : (x : Bool) → eqb (v % R) 0 ≡ x → (y : Bool) → ltb 0 v ≡ y →
            cond (x && y) (rolled (taken r g) (increment r.control)) (taken r g) ≡ row_address r f (v / R)
        go false ex y ey = rw (← (row_same R v row_some (eqb-false (v % R) 0 ex))) e
        go true ex true ey = rw (row_next R v row_some (ltb-true 0 v ey) (eqb-true (v % R) 0 ex), e) (next_row ((v - 1) / R))
        go true ex false ey =
            let z : v ≡ 0 = omega (arith, ltb-false 0 v ey) in
            let k : v - 1 ≡ v = omega arith in
            rw k at e

    held_dark : visible_at r g ≡ false → held_address r g ≡ taken r g
    unfolding held_address transfer_at
    held_dark l = simp l

    -- and after any tick it is the last row's begun
    pub held_row : held_address r g ≡ row_address r f ((seen_after r g - 1) / R)
    unfolding seen_after
    held_row = go (visible_at r g) refl
      where
        go : (x : Bool) → visible_at r g ≡ x → held_address r g ≡ row_address r f ((cond x (v + 1) v - 1) / R)
        go true l = let k : v + 1 - 1 ≡ v = omega arith in rw k (held_lit l)
        go false l = held_dark l ∙ e

  module _ (n : ℕ) (g : Generator) (a : AtTick (field_at r g) n g) (b : g.second ≡ f) where
    abbrev O : Bool
    O = opens (field_at r g) g.half.0 g.at.0

    opens_seen : O ≡ true → g.seen.0 ≡ 0
    unfolding opens
    opens_seen p = go (eqb g.half.0 (halves_to_vdisplay (screen r))) refl (eqb g.at.0 0) refl p
      where
        go : (x : Bool) → eqb g.half.0 (halves_to_vdisplay (screen r)) ≡ x → (y : Bool) → eqb g.at.0 0 ≡ y → (x && y) ≡ true → g.seen.0 ≡ 0
        go true ex true ey z = first_seen r.control (field_at r g) (accepted_in (screen r) g.second ok) n g a (eqb-true g.half.0 (halves_to_vdisplay (screen r)) ex) (eqb-true g.at.0 0 ey)
        go true ex false ey z = absurd (true≢false (sym z))
        go false ex y ey z = absurd (true≢false (sym z))

    opens_past : O ≡ false → ticks_to_vdisplay (screen r) ≤ n → ticks_to_vdisplay (screen r) < n
    unfolding opens
    opens_past p = go (eqb g.half.0 (halves_to_vdisplay (screen r))) refl (eqb g.at.0 0) refl p
      where
        go : (x : Bool) → eqb g.half.0 (halves_to_vdisplay (screen r)) ≡ x → (y : Bool) → eqb g.at.0 0 ≡ y → (x && y) ≡ false → ticks_to_vdisplay (screen r) ≤ n → ticks_to_vdisplay (screen r) < n
        go false ex y ey z = first_only r.control (field_at r g) (accepted_in (screen r) g.second ok) n g a (◌⊎◌.inl (eqb-false g.half.0 (halves_to_vdisplay (screen r)) ex))
        go true ex false ey z = first_only r.control (field_at r g) (accepted_in (screen r) g.second ok) n g a (◌⊎◌.inr (eqb-false g.at.0 0 ey))
        go true ex true ey z = absurd (true≢false z)

    pub taken_row : (ticks_to_vdisplay (screen r) < n → g.held ≡ row_address r f ((g.seen.0 - 1) / R)) → ticks_to_vdisplay (screen r) ≤ n → taken r g ≡ row_address r f ((g.seen.0 - 1) / R)
    unfolding taken
    taken_row h p = go O refl
      where
        go : (x : Bool) → O ≡ x → cond x (top_used r g.second) g.held ≡ row_address r f ((g.seen.0 - 1) / R)
        go true e =
            let j : (g.seen.0 - 1) / R ≡ 0 = simp (opens_seen e) (zero-div R) in
            simp (b, j) first_row
        go false e = h (opens_past e p)

    none_either : (b : Bool) → none ≡ cond b none none
    none_either true = refl
    none_either false = refl

    none_first : (m : List ℕ) → none ≡ sums_to r f m 0
    unfolding sums_to run summed
    none_first m = none_either (forced_blank r.control)

    pub cleared_row : (m : List ℕ) → (ticks_to_vdisplay (screen r) < n → g.sums ≡ sums_to r f m g.seen.0) → ticks_to_vdisplay (screen r) ≤ n → cleared r g ≡ sums_to r f m g.seen.0
    unfolding cleared
    cleared_row m h p = go O refl
      where
        go : (x : Bool) → O ≡ x → cond x none g.sums ≡ sums_to r f m g.seen.0
        go true e = rw (opens_seen e) (none_first m)
        go false e = h (opens_past e p)

-- pixel j of visible tick v among the field's
pub by_four : (v j : ℕ) → j < 4 → ((4 * v + j) / 4 ≡ v) × ((4 * v + j) % 4 ≡ j)
by_four v j p = (omega arith, omega arith)

module _ (r : Registers) (f : Bool) (m : List ℕ) where
  lit_dot : forced_blank r.control ≡ false → (v j : ℕ) → j < 4 → dot_of r f m (address_at r f v) v (0 + j) ≡ dot_for r f m (4 * v + j)
  unfolding dot_for
  lit_dot b v j p = let q = by_four v j p in simp (b, q.0, q.1, zero-add)

  blank_dot : forced_blank r.control ≡ true → (i : ℕ) → black ≡ dot_for r f m i
  unfolding dot_for
  blank_dot b i = simp b

  -- the four dots of a visible tick are the field's pixels 4 v to 4 v + 3
  pub dots_run : (g : Generator) → g.second ≡ f → visible_at r g ≡ true → held_address r g ≡ address_at r f g.seen.0 → dots r m g ≡ run (dot_for r f m) (4 * g.seen.0) 4
  unfolding dots shows
  dots_run g b l e = simp (l, e, b) (go (forced_blank r.control) refl)
    where
      go : (b : Bool) → forced_blank r.control ≡ b → cond (not b) (run (dot_of r f m (address_at r f g.seen.0) g.seen.0) 0 4) (run (λ k. black) 0 4) ≡ run (dot_for r f m) (4 * g.seen.0) 4
      go true b = run_same (λ k. black) (dot_for r f m) 0 (4 * g.seen.0) 4 (λ k p. blank_dot b (4 * g.seen.0 + k))
      go false b = run_same (dot_of r f m (address_at r f g.seen.0) g.seen.0) (dot_for r f m) 0 (4 * g.seen.0) 4 (lit_dot b g.seen.0)

  more_sums : (v : ℕ) → forced_blank r.control ≡ false → summed (sums_to r f m v) (colours_of (run (dot_for r f m) (4 * v) 4)) ≡ sums_to r f m (v + 1)
  unfolding sums_to
  more_sums v b =
      let e : 4 * v + 4 ≡ 4 * (v + 1) = omega arith in
      let joined : summed none (colours_of (run (dot_for r f m) 0 (4 * v + 4))) ≡ summed (summed none (colours_of (run (dot_for r f m) 0 (4 * v)))) (colours_of (run (dot_for r f m) (4 * v) 4)) = rw (run_append, zero-add, map-append, summed_join) in
      simp b (sym joined ∙ ap (λ (k : ℕ). summed none (colours_of (run (dot_for r f m) 0 k))) e)

  same_sums : (v w : ℕ) → forced_blank r.control ≡ true → sums_to r f m v ≡ sums_to r f m w
  unfolding sums_to
  same_sums v w b = simp b

  module _ (g : Generator) (b : g.second ≡ f) (h : visible_at r g ≡ true → held_address r g ≡ address_at r f g.seen.0) where
    -- one tick's sums
    pub sums_row : cleared r g ≡ sums_to r f m g.seen.0 → sums_after r m g ≡ sums_to r f m (seen_after r g)
    unfolding sums_after shows seen_after
    sums_row e = go (visible_at r g) refl (forced_blank r.control) refl
      where
        go : (x : Bool) → visible_at r g ≡ x → (b : Bool) → forced_blank r.control ≡ b →
            cond (x && not b) (summed (cleared r g) (colours_of (dots r m g))) (cleared r g) ≡ sums_to r f m (cond x (g.seen.0 + 1) g.seen.0)
        go false l b eb = e
        go true l true eb = e ∙ same_sums g.seen.0 (g.seen.0 + 1) eb
        go true l false eb = rw (e, dots_run g b l (h l)) (more_sums g.seen.0 eb)

  abbrev beyond : ℕ → Bool
  beyond place = ends_beyond (pixel_bits r.control) m place

  -- visible tick v would be refused
  unfoldable pub stops : ℕ → Bool
  stops v = not (forced_blank r.control) && (transferring r.control && some (λ k. beyond (place_at r f (4 * v + k))) 4)

  same_places : (g : Generator) → held_address r g ≡ address_at r f g.seen.0 → some (λ k. beyond (place r (held_address r g) g.seen.0 k)) 4 ≡ some (λ k. beyond (place_at r f (4 * g.seen.0 + k))) 4
  unfolding place_at
  same_places g e = some_same _ _ 4 (λ k l. let q = by_four g.seen.0 k l in simp (e, q.0, q.1))

  pub refuses_lit : (g : Generator) → (visible_at r g ≡ true → held_address r g ≡ address_at r f g.seen.0) → refuses20 r m g ≡ (visible_at r g && stops g.seen.0)
  unfolding refuses20 shows stops
  refuses_lit g h = go (visible_at r g) refl
    where
      go : (x : Bool) → visible_at r g ≡ x →
          ((x && not (forced_blank r.control)) && (transferring r.control && some (λ k. beyond (place r (held_address r g) g.seen.0 k)) 4))
          ≡ (x && (not (forced_blank r.control) && (transferring r.control && some (λ k. beyond (place_at r f (4 * g.seen.0 + k))) 4)))
      go false l = refl
      go true l = rw (same_places g (h l))

  -- some visible tick below v would be: some place of its pixels ends beyond the memory
  pub stops_some : (v : ℕ) → some stops v ≡ (not (forced_blank r.control) && (transferring r.control && some (λ i. beyond (place_at r f i)) (4 * v)))
  unfolding stops
  stops_some v =
      some_and (not (forced_blank r.control)) _ v
      ∙ ap (λ (t : Bool). not (forced_blank r.control) && t) (some_and (transferring r.control) _ v)
      ∙ rw (some_four (λ i. beyond (place_at r f i)) v)
