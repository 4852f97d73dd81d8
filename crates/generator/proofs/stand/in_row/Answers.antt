-- `generator::stand::in_row` meets its contract: each part by its own call, joined by one law.
use Rattle.registers.specs.File.{bare}
use Rattle.generator.proofs.stand.Stands.{stands_in}
use Rattle.generator.proofs.stand.in_row.Goals as goal

pub returns : goal.returns
returns c = record { stands = stands_in (bare c.args.n) c.args.g c.args.s c.requires.s_value c.args.moment c.requires.moment_value c.requires.visible_value.0 _ _ _ _ _ _ _ c.requires.visible_value.1 c.held_of-held.ensures.address c.divisor_power-power.ensures.power c.place_of-place.ensures.place c.is_transferring-on.ensures.bit c.is_asking-asking.ensures.test c.is_forced_blank-blank.ensures.bit c.place_of-place.ensures.bound }
