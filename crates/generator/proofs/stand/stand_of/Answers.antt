-- `generator::stand::stand_of` meets its contract: in a line and between lines.
use mathlib.Core.Bool.{Bool}
use mathlib.Core.Path.{◌≡◌, ap, ◌∙◌}
use Rattle.control.specs.Control.{plain}
use Rattle.units.specs.Parameters.{screen_of, in_field}
use Rattle.registers.specs.File.{bare}
use Rattle.lines.specs.Lines.{moment_of}
use Rattle.generator.specs.Rows.{field_at, taken}
use Rattle.generator.proofs.stand.Stands.{taken_by, stands_off}
use Rattle.generator.proofs.stand.stand_of.Goals as goal

pub in_row-requires : goal.in_row-requires
in_row-requires c =
    let field : c.in_field-s.result ≡ field_at (bare c.args.n) c.args.g = c.in_field-s.ensures.screen ∙ ap (in_field c.args.g.second) (c.screen_of.ensures.screen ∙ ap (screen_of c.args.n.params) c.is_interlaced-interlaced.ensures.bit) in
    let moment : c.moment_of-moment.result ≡ moment_of (field_at (bare c.args.n) c.args.g) (plain c.args.n.control) c.args.g.half.0 c.args.g.at.0 = c.moment_of-moment.ensures.moment ∙ ap (λ (b : Bool). moment_of (in_field c.args.g.second (screen_of c.args.n.params b)) c.is_plain-plain.result c.args.g.half.0 c.args.g.at.0) c.is_interlaced-interlaced.ensures.bit ∙ ap (λ (b : Bool). moment_of (field_at (bare c.args.n) c.args.g) b c.args.g.half.0 c.args.g.at.0) c.is_plain-plain.ensures.bit in
    let held : c.choose-taken.result ≡ taken (bare c.args.n) c.args.g = taken_by (bare c.args.n) c.args.g _ field _ moment _ _ c.top_used-top.ensures.top c.choose-taken.ensures.chosen in
    record { runs = c.requires; s_value = field; moment_value = moment; visible_value = (c.if-moment.true, held) }

pub returns : goal.returns
returns c =
    let field : c.in_field-s.result ≡ field_at (bare c.args.n) c.args.g = c.in_field-s.ensures.screen ∙ ap (in_field c.args.g.second) (c.screen_of.ensures.screen ∙ ap (screen_of c.args.n.params) c.is_interlaced-interlaced.ensures.bit) in
    let moment : c.moment_of-moment.result ≡ moment_of (field_at (bare c.args.n) c.args.g) (plain c.args.n.control) c.args.g.half.0 c.args.g.at.0 = c.moment_of-moment.ensures.moment ∙ ap (λ (b : Bool). moment_of (in_field c.args.g.second (screen_of c.args.n.params b)) c.is_plain-plain.result c.args.g.half.0 c.args.g.at.0) c.is_interlaced-interlaced.ensures.bit ∙ ap (λ (b : Bool). moment_of (field_at (bare c.args.n) c.args.g) b c.args.g.half.0 c.args.g.at.0) c.is_plain-plain.ensures.bit in
    let held : c.choose-taken.result ≡ taken (bare c.args.n) c.args.g = taken_by (bare c.args.n) c.args.g _ field _ moment _ _ c.top_used-top.ensures.top c.choose-taken.ensures.chosen in
    record { stands = stands_off (bare c.args.n) c.args.g _ (field) _ (moment) c.if-moment.false _ (held) _ c.is_request-request.ensures.test }
