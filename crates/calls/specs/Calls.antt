-- Many ticks of a machine (docs/SCRIPT.md, `run`), and its picture's size. Assumes nothing.
use Rattle.std.specs.Prelude.{ℕ, zero, suc, ◌+◌, ◌*◌, true, cond, List, eqb}
use Rattle.control.specs.Control.{interlaced}
use Rattle.units.specs.Parameters.{in_field, displayed_lines}
use Rattle.lines.specs.Lines.{lead}
use Rattle.generator.specs.Rows.{screen}
use Rattle.machine.specs.Rules.{advanced}
use Rattle.machine.specs.declared.Machine.{Machine}
use Rattle.calls.specs.declared.Ran.{Ran}
use Rattle.calls.specs.declared.Size.{Size}

-- one tick more of a run, unless one was refused; a refused tick is not done
unfoldable pub ran_on : List ℕ → Ran → Ran
ran_on memory r =
    cond (eqb r.refusal 0)
    (record {
      done = cond (eqb (advanced r.machine memory).refusal 0) (r.done + 1) r.done;
      refusal = (advanced r.machine memory).refusal;
      machine = (advanced r.machine memory).machine;
    })
    r

-- a run of so many ticks, from a machine on
unfoldable pub ran_of : List ℕ → Machine → ℕ → Ran
ran_of memory m zero = record { done = 0; refusal = 0; machine = m }
ran_of memory m (suc n) = ran_on memory (ran_of memory m n)

-- a picture's width and height: four pixels to a unit of Display, and its displayed lines; interlaced, one line more, since the first field ends
-- with a half line and the second begins with one, and the pixels of a first half, which the second field's first line lacks
abbrev pub size_of : Machine → Size
size_of m =
    record {
      width = 4 * (screen m.regs).display.0;
      height = cond (interlaced m.regs.control) (displayed_lines (screen m.regs) + 1) (displayed_lines (screen m.regs));
      half = cond (interlaced m.regs.control) (4 * lead (in_field true (screen m.regs))) 0;
    }
