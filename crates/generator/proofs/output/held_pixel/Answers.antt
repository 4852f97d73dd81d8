-- `generator::output::held_pixel` meets its contract: the pixel out of its byte.
use mathlib.Core.Path.{◌∙◌}
use Rattle.memory.proofs.Laws.{shown_in}
use Rattle.generator.proofs.output.held_pixel.Goals as goal

pub returns : goal.returns
returns c = record { pixel = c.pixel_in.ensures.pixel ∙ rw c.byte_of-index.ensures.byte (shown_in c.args.control c.args.memory.now c.args.place c.requires.control_value) }
