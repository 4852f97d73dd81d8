-- `control::field` meets its contract: shifted down, and masked by as many ones.
use Rattle.std.proofs.lemmas.Nat.{one_shl}
use Rattle.control.proofs.Fields.{field_masked}
use Rattle.control.proofs.field.Goals as goal

pub returns : goal.returns
returns c = record { bits = rw (one_shl c.args.count 32 c.requires.1) (field_masked c.args.low c.args.word c.args.count) }
