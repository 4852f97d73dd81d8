-- `generator::output::fetched` meets its contract: one pixel after the other, none of which ends beyond the memory.
use Prim.Native.Nat.{◌+◌}
use mathlib.Core.Path.{sym, ◌∙◌}
use native.Mathlib.Nat.{add-zero}
use Rattle.base.specs.Count.{run}
use Rattle.memory.proofs.Laws.{shown_off}
use Rattle.generator.proofs.output.fetched.Goals as goal

pub returns-then-depth_code-eq3 : goal.returns-then-depth_code-eq3
unfolding run
returns-then-depth_code-eq3 c = record { pixels = rw (add-zero, c.held_byte-then-depth_code-eq3-3.ensures.pixel, c.held_byte-then-depth_code-eq3-2.ensures.pixel, c.held_byte-then-depth_code-eq3.ensures.pixel, c.held_byte.ensures.pixel) }

pub returns-then-on : goal.returns-then-on
unfolding run
returns-then-on c = record { pixels = rw (add-zero, c.held_pixel-then-on-3.ensures.pixel, c.held_pixel-then-on-2.ensures.pixel, c.held_pixel-then-on.ensures.pixel, c.held_pixel.ensures.pixel) }

pub returns : goal.returns
unfolding run
returns c =
    let none = sym c.is_transferring-on.ensures.bit ∙ c.if-on.false in
    record { pixels = rw (← (shown_off c.args.control c.args.memory.now (c.args.place + 0) none), ← (shown_off c.args.control c.args.memory.now (c.args.place + 1) none), ← (shown_off c.args.control c.args.memory.now (c.args.place + 2) none), ← (shown_off c.args.control c.args.memory.now (c.args.place + 3) none)) }
