-- `picture::span::paint` meets its contract. The invariant: k is where the next pixel is stored, and those before number i are painted, whatever
-- says their colours.
use Prim.Native.Nat.{ℕ, ◌+◌, ◌*◌, ◌-◌, ◌≤◌, ◌<◌}
use mathlib.Core.Path.{◌≡◌}
use Rattle.base.specs.Count.{run}
use Rattle.picture.specs.Span.{Painted}
use Rattle.picture.proofs.span.paint.Given as goal

abbrev pub invariant-loop-i : goal.invariant-loop-i
invariant-loop-i g l =
    (l.k ≡ l.fn.s.at + 3 * l.i) ×
    ((f : ℕ → ℕ) → ((i c : ℕ) → l.first ≤ i → i < l.end → goal.F-post g l.colour i c → c ≡ f i) →
    Painted l.initial.buffer (l.fn.s.at + 3 * l.first) l.initial.t (run f l.first (l.i - l.first)) l.buffer l.t)
