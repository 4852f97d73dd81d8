-- `form::is_label` meets its contract. Assumes nothing.
use mathlib.Core.Path.{refl}
use Rattle.form.specs.declared.TheConstants.{LABELS}
use Rattle.form.proofs.Cases.{label_made}
use Rattle.form.proofs.is_label.Goals as goal

pub returns : goal.returns
returns c = record { test = label_made LABELS refl refl refl c.args.p c.args.k _ c.is_text.ensures.test }
