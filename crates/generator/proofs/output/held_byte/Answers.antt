-- `generator::output::held_byte` meets its contract: the byte at its place.
use Rattle.std.proofs.Common.{◌<◌, get_or, rules}
use Rattle.memory.proofs.Laws.{shown_whole}
use Rattle.generator.proofs.output.held_byte.Goals as goal

pub returns : goal.returns
returns c =
    let fits : get_or c.args.memory.now c.args.place 0 < 256 = search rules in
    record { pixel = shown_whole c.args.control c.args.memory.now c.args.place c.requires.control_value.0 c.requires.control_value.1 fits }
