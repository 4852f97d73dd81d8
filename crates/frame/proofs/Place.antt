-- Where the generator stands before tick n of a field, and which tick is the first of VDisplay and which the field's last. Assumes nothing.
use Prim.Native.Nat.{ℕ, ◌+◌, ◌*◌, ◌≤◌, ◌<◌}
use mathlib.Core.Bool.{Bool, true, false, cond}
use mathlib.Core.Logic.{◌⊎◌, ⊎_elim}
use mathlib.Core.Path.{◌≡◌, sym, ◌∙◌}
use native.Mathlib.Nat.{mul-le-mul_right, mul-pos, zero-mul}
use native.Mathlib.Omega.{arith}
use Rattle.units.specs.Parameters.{half_ticks, halves_to_vdisplay, halves_in_field, field_ticks, row_length}
use Rattle.screen.specs.Limits.{Accepted}
use Rattle.units.specs.declared.Screen.{Screen}
use Rattle.screen.proofs.limits.Laws.{narrow}
use Rattle.registers.specs.declared.Registers.{Registers}
use Rattle.pixel.specs.declared.Sums.{Sums}
use Rattle.lines.specs.Lines.{visible, tick_number, visible_before, field_visible}
use Rattle.generator.specs.Rows.{screen, field_at}
use Rattle.generator.specs.Tick.{step_with}
use Rattle.generator.specs.Sound.{Placed}
use Rattle.generator.specs.Dark.{ticks_to_vdisplay}
use Rattle.generator.specs.declared.Generator.{Generator}
use Rattle.generator.proofs.VisibleBefore.{dark, visible_next, visible_none, visible_opens, field_visible_lem}
use Rattle.generator.proofs.Rows.{row_some}
use Rattle.generator.proofs.Kept.{next, closes_before, last_at, last_half, step_placed}
use Rattle.frame.specs.Frame.{AtField}
use Rattle.base.proofs.Bools.{below}

-- placed, before tick n of the field
pub record AtTick (s : Screen) (n : ℕ) (g : Generator) : Type 0 where
  pub placed : Placed s g
  pub number : tick_number s g.half.0 g.at.0 ≡ n

-- inside the field the next tick is the next number
pub tick_on : (r : Registers) → Accepted r.control (screen r) → (n : ℕ) (g : Generator) (sums : Sums) → AtTick (field_at r g) n g → n + 1 < field_ticks (screen r) → AtTick (field_at r (step_with r g sums)) (n + 1) (step_with r g sums)
unfolding step_with
tick_on r ok n g sums a l =
    let p = a.placed in
    let inside = closes_before (field_at r g) g.half.0 g.at.0 p.half_in p.at_in (omega (arith, a.number)) in
    record {
      placed = step_placed r ok g sums p;
      number = (next (field_at r g) g.half.0 g.at.0 p.half_in p.at_in).number ∙ simp (inside, a.number);
    }

module _ (control : ℕ) (s : Screen) (ok : Accepted control s) where
  pub ticks_some : 0 < field_ticks s
  ticks_some = mul-pos {m = half_ticks s} (omega (arith, ok.half_holds)) (omega (arith, ok.bounded.vdisplay.low))

  pub rows_some : 0 < row_length s
  rows_some = row_some s (narrow s ok.bounded)

  -- a field starts before its tick 0, with nothing seen
  start_seen : (h u : ℕ) → h ≡ 0 → u ≡ 0 → visible_before s (tick_number s h u) ≡ 0
  start_seen h u p q = visible_none control s ok h u (omega (arith, ok.half_holds)) (omega (arith, ok.bounded.vpreequalise.low))

  module _ {f : Bool} (g : Generator) (p : Placed s g) (b : AtField f g) where
    pub at_start : AtTick s 0 g
    at_start = record { placed = p; number = simp (b.half, b.at, zero-mul) }

    pub seen_none : g.seen.0 ≡ 0
    seen_none = p.seen_is ∙ start_seen g.half.0 g.at.0 b.half b.at

  module _ (n : ℕ) (g : Generator) (a : AtTick s n g) where
    abbrev h : ℕ
    h = g.half.0

    abbrev u : ℕ
    u = g.at.0

    -- a field starts at its tick 0 only
    pub start_number : {f : Bool} → AtField f g → n ≡ 0
    start_number b =
        let z : h * half_ticks s ≡ 0 = simp (b.half, zero-mul) in
        omega (arith, a.number, b.at)

    -- the field's last tick: the last tick of the last half line
    module _ (e : n + 1 ≡ field_ticks s) where
      pub end_at : half_ticks s ≤ u + 1
      end_at = last_at s h u a.placed.half_in a.placed.at_in (omega (arith, a.number))

      pub end_half : halves_in_field s ≤ h + 1
      end_half = last_half s h u a.placed.half_in a.placed.at_in (omega (arith, a.number))

      in_display_lem : halves_to_vdisplay s ≤ h
      in_display_lem = omega (arith, end_half, ok.bounded.vdisplay.low)

      -- past it all visible ones are counted
      pub end_seen : cond (visible s h u) (g.seen.0 + 1) g.seen.0 ≡ field_visible s
      end_seen =
          let last : tick_number s h u + 1 ≡ field_ticks s = omega (arith, a.number) in
          rw a.placed.seen_is (sym (visible_next control s ok h u a.placed.at_in) ∙ rw last (field_visible_lem control s ok))

      pub end_past : ticks_to_vdisplay s ≤ n
      end_past = omega (arith, mul-le-mul_right (half_ticks s) in_display_lem, a.number)

    -- a visible tick lies in VDisplay
    pub lit_past : visible s h u ≡ true → ticks_to_vdisplay s ≤ n
    lit_past v =
        ⊎_elim
        (λ (p : h < halves_to_vdisplay s). let z : true ≡ false = sym v ∙ dark s h u p in absurd (let y : ◌≡◌ {A = ℕ} 0 1 = cc in omega arith))
        (λ (p : halves_to_vdisplay s ≤ h). omega (arith, mul-le-mul_right (half_ticks s) p, a.number))
        (below h (halves_to_vdisplay s))

    -- the first tick of VDisplay has nothing before it
    pub first_seen : h ≡ halves_to_vdisplay s → u ≡ 0 → g.seen.0 ≡ 0
    first_seen p q = a.placed.seen_is ∙ rw (p, q) (visible_opens control s ok)

    -- and every other tick from there on a greater number
    pub first_only : (h ≡ halves_to_vdisplay s → ⊥) ⊎ (u ≡ 0 → ⊥) → ticks_to_vdisplay s ≤ n → ticks_to_vdisplay s < n
    first_only other z =
        ⊎_elim
        (λ (p : h < halves_to_vdisplay s). absurd (omega (arith, mul-le-mul_right (half_ticks s) p, a.number, a.placed.at_in)))
        (λ (p : halves_to_vdisplay s ≤ h). ⊎_elim (off p) (λ k. omega (arith, mul-le-mul_right (half_ticks s) p, a.number, some_at k)) other)
        (below h (halves_to_vdisplay s))
      where
        some_at : (u ≡ 0 → ⊥) → 0 < u
        some_at k = omega arith

        off : halves_to_vdisplay s ≤ h → (h ≡ halves_to_vdisplay s → ⊥) → ticks_to_vdisplay s < n
        off p k =
            let q : halves_to_vdisplay s + 1 ≤ h = omega arith in
            omega (arith, mul-le-mul_right (half_ticks s) q, a.number, ok.half_holds)
