-- Two ticks' signals are not equal exactly where some wire differs. Assumes nothing.
use mathlib.Core.Bool.{Bool, true, false, not, beq, ◌&&◌, ◌||◌}
use mathlib.Core.List.{List, [], ◌∷◌}
use mathlib.Core.Path.{◌≡◌, refl, ◌∙◌, ap}
use native.Mathlib.Omega.{arith}
use lib.ListN.{length, get_or}
use lib.Dec.{eqb}
use lib.Pointwise.{pointwise}
use Rattle.std.proofs.Math.Bool.{and-true, or_assoc}
use Rattle.signals.specs.Signals.{black}
use Rattle.signals.specs.declared.Dot.{Dot}
use Rattle.signals.specs.declared.Signals.{Signals}
use Rattle.waveform.specs.BitWires.{differ, levels_differ}
use Rattle.waveform.specs.WideWires.{pixel_colour, buses_differ}

-- what `before != s` answers
abbrev pub other_signals : Signals → Signals → Bool
other_signals b s =
    not (beq b.sync s.sync
    && (beq b.vsync s.vsync
    && (beq b.inactive s.inactive
    && (beq b.blank s.blank
    && (beq b.request s.request
    && (beq b.transfer s.transfer
    && (eqb b.address s.address
    && pointwise (λ (x y : Dot). eqb x.colour y.colour) b.dots s.dots)))))))

not_both : (x y : Bool) → not (x && y) ≡ (not x || not y)
not_both true y = refl
not_both false y = refl

not_equal : (a b : Bool) → not (beq a b) ≡ differ a b
not_equal true true = refl
not_equal true false = refl
not_equal false true = refl
not_equal false false = refl

-- the elements of a list of four
four : {X : Type 0} (d : X) (xs : List X) → length xs ≡ 4 → xs ≡ (get_or xs 0 d ∷ get_or xs 1 d ∷ get_or xs 2 d ∷ get_or xs 3 d ∷ [])
four d [] h = absurd (omega (arith, h))
four d (w ∷ []) h = absurd (omega (arith, h))
four d (w ∷ x ∷ []) h = absurd (omega (arith, h))
four d (w ∷ x ∷ y ∷ []) h = absurd (omega (arith, h))
four d (w ∷ x ∷ y ∷ z ∷ []) h = refl
four d (w ∷ x ∷ y ∷ z ∷ v ∷ vs) h = absurd (omega (arith, h))

other_dots : (b s : Signals) → length b.dots ≡ 4 → length s.dots ≡ 4 →
    pointwise (λ (x y : Dot). eqb x.colour y.colour) b.dots s.dots
    ≡ (eqb (pixel_colour b 0) (pixel_colour s 0) && (eqb (pixel_colour b 1) (pixel_colour s 1) && (eqb (pixel_colour b 2) (pixel_colour s 2) && eqb (pixel_colour b 3) (pixel_colour s 3))))
other_dots b s h k =
    (λ i. pointwise (λ (x y : Dot). eqb x.colour y.colour) (four black b.dots h i) (four black s.dots k i))
    ∙ ap (λ t. eqb (pixel_colour b 0) (pixel_colour s 0) && (eqb (pixel_colour b 1) (pixel_colour s 1) && (eqb (pixel_colour b 2) (pixel_colour s 2) && t))) (and-true _)

pub some_wire : (b s : Signals) → length b.dots ≡ 4 → length s.dots ≡ 4 → other_signals b s ≡ (levels_differ b s || buses_differ b s)
some_wire b s h k = simp (other_dots b s h k, not_both, not_equal, or_assoc)
