-- `generator::stand::is_request` meets its contract: 24 bits bound the counts, because the generator stands inside its field; the prelude by its number.
use mathlib.Core.Path.{◌≡◌, ap, ◌∙◌}
use Rattle.units.specs.Parameters.{screen_of, in_field}
use Rattle.units.specs.declared.Screen.{Screen}
use Rattle.lines.specs.Lines.{lead, field_visible}
use Rattle.registers.specs.File.{bare}
use Rattle.registers.specs.declared.Registers.{Registers}
use Rattle.generator.specs.Rows.{field_at}
use Rattle.generator.specs.declared.Generator.{Generator}
use Rattle.generator.proofs.stand.Stands.{request_by}
use Rattle.generator.proofs.stand.is_request.Goals as goal

-- the screen in its field is what its parameters, its format and its field make
same : (r : Registers) (g : Generator) (s : Screen) → s ≡ field_at r g → in_field s.second (screen_of r.params s.interlaced) ≡ s
unfolding screen_of
same r g s e = rw e

pub first_visible-first-requires : goal.first_visible-first-requires
first_visible-first-requires c =
    let field : in_field c.args.s.second (screen_of c.args.n.params c.args.s.interlaced) ≡ c.args.s = same (bare c.args.n) c.args.g c.args.s c.requires.s_value in
    let first : c.shown_in-shown.result.lead ≡ lead c.args.s = c.shown_in-shown.ensures.lead ∙ ap lead field in
    record { bounded = c.requires.inside.bounded; before_value = first }

pub returns : goal.returns
returns c =
    let field : in_field c.args.s.second (screen_of c.args.n.params c.args.s.interlaced) ≡ c.args.s = same (bare c.args.n) c.args.g c.args.s c.requires.s_value in
    let all : c.shown_in-shown.result.visible ≡ field_visible c.args.s = c.shown_in-shown.ensures.visible ∙ ap field_visible field in
    record { test = request_by c.args.n.control c.args.g c.args.s c.requires.inside.accepted _ _ _ _ _ c.first_visible-first.ensures.number (all) c.is_transferring-on.ensures.bit c.is_requested.ensures.test }
