-- An interlaced picture's file: the rows one after the other are all its bytes, and it is woven as a tube shows it. Assumes nothing.
use Prim.Native.Nat.{ℕ, zero, suc, ◌+◌, ◌*◌, ◌<◌}
use mathlib.Core.Bool.{true}
use mathlib.Core.List.{List}
use mathlib.Core.Path.{◌≡◌, sym}
use native.Mathlib.Nat.{zero-mul, zero-add}
use native.Mathlib.Omega.{arith}
use Rattle.base.specs.Count.{run}
use Rattle.base.proofs.Run.{run_append}
use Rattle.control.specs.Control.{running, interlaced}
use Rattle.generator.specs.Sound.{Sound}
use Rattle.machine.specs.declared.Machine.{Machine}
use Rattle.weave.specs.declared.Weave.{Weave}
use Rattle.weave.specs.Weave.{is_row, byte_at, row_bytes, row_put}
use Rattle.calls.specs.Calls.{size_of}
use Rattle.calls.specs.Woven.{weave_of}
use Rattle.calls.proofs.Woven.{woven}
use Rattle.report.specs.declared.Page.{Page}
use Rattle.session.specs.Shows.{rows_joined, InterlacedFile}

module _ (w : Weave) (picture : List ℕ) (size : ℕ) where
  put : (row : ℕ) → is_row w row size ≡ true → row_put w picture row size ≡ row_bytes w picture row
  unfolding row_put
  put row e = rw e

  -- rows that fit, one after the other, are the file's bytes
  joined : (n : ℕ) → ((row : ℕ) → row < n → is_row w row size ≡ true) → rows_joined w picture size n ≡ run (byte_at w picture) 0 (3 * n * w.width)
  unfolding rows_joined run
  joined zero fits = let none : 3 * 0 * w.width ≡ 0 = omega (arith, zero-mul w.width) in rw none
  joined (suc n) fits =
      let whole : 3 * suc n * w.width ≡ 3 * n * w.width + 3 * w.width = omega arith in
      rw (joined n (λ row h. fits row (omega arith)), put n (fits n (omega arith)), whole) (sym (rw (zero-add (3 * n * w.width)) at (run_append (byte_at w picture) 0 (3 * n * w.width) (3 * w.width))))

-- THE FILE OF AN INTERLACED PICTURE THAT A MACHINE HAS DRAWN IS AS A TUBE SHOWS IT
pub interlaced_file : (p : Page) (m : Machine) → Sound m.regs m.generator → running m.regs.control ≡ true → interlaced m.regs.control ≡ true → InterlacedFile p m
interlaced_file p m sound runs n =
    let all = woven m sound runs n in
    record {
      woven = all;
      rows = λ picture. joined (weave_of (size_of m)) picture 65536 (size_of m).height (λ row h. all.rows row 65536 (omega arith) (omega arith));
    }
