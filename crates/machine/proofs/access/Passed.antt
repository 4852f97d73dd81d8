-- What a write that gets no refusal has passed, and what passes gets none: the laws by which proofs use the chain. Assumes nothing.
use Prim.Native.Nat.{ℕ, ◌≤◌}
use mathlib.Core.Bool.{Bool, true, false, cond, xor, true≢false}
use mathlib.Core.Path.{◌≡◌, refl}
use borrow.Author.Tests.{ltb-false, le-ltb}
use Rattle.control.specs.Control.{running, interlaced}
use Rattle.registers.specs.Map.{widest}
use Rattle.registers.specs.declared.map.Place.{Place}
use Rattle.registers.specs.declared.Registers.{Registers}
use Rattle.machine.specs.Access.{write_refuses2, write_refuses1, refuses3, changes_format, write_refuses4, start_limit, write_refusal}
use Rattle.base.proofs.Bools.{link_passed}

pub record Passed (r : Registers) (p : Place) (value : ℕ) : Type 0 where
  pub opened : write_refuses2 p ≡ false
  pub narrow : value ≤ widest p
  pub idle : refuses3 r p ≡ false
  pub known : write_refuses4 r p value ≡ false
  pub limits : start_limit r p value ≡ 0

linked : (test : Bool) (n later : ℕ) → test ≡ false → later ≡ 0 → cond test n later ≡ 0
linked true n later e l = absurd (true≢false e)
linked false n later e l = l

pub passed : (r : Registers) (p : Place) (value : ℕ) → write_refusal r p value ≡ 0 → Passed r p value
unfolding write_refusal
passed r p value e =
    let two = link_passed (write_refuses2 p) 1 _ e in
    let one = link_passed (write_refuses1 p value) 0 _ two.1 in
    let three = link_passed (refuses3 r p) 2 _ one.1 in
    let four = link_passed (write_refuses4 r p value) 3 _ three.1 in
    record { opened = two.0; narrow = ltb-false _ _ one.0; idle = three.0; known = four.0; limits = four.1 }

pub accepted : (r : Registers) (p : Place) (value : ℕ) → Passed r p value → write_refusal r p value ≡ 0
unfolding write_refusal
accepted r p value q =
    linked (write_refuses2 p) 2 _ q.opened
    (linked (write_refuses1 p value) 1 _ (le-ltb _ _ q.narrow)
    (linked (refuses3 r p) 3 _ q.idle
    (linked (write_refuses4 r p value) 4 _ q.known q.limits)))

alike : (a b : Bool) → xor a b ≡ false → a ≡ b
unfolding xor
alike true true e = refl
alike true false e = absurd (true≢false e)
alike false true e = absurd (true≢false e)
alike false false e = refl

-- a word that leaves a generator running, and does not change the format, is of the format that stands
pub format_kept : (r : Registers) (value : ℕ) → running r.control ≡ true → running value ≡ true → changes_format r value ≡ false → interlaced value ≡ interlaced r.control
format_kept r value on stays e = alike (interlaced value) (interlaced r.control) (simp (on, stays) at e)
