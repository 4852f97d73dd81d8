-- `session::first_desk` meets its contract.
use mathlib.Core.Path.{refl}
use Rattle.session.proofs.Laws.{first_done_lem}
use Rattle.session.proofs.first_desk.Goals as goal

pub returns : goal.returns
returns c =
    let e = c.begin-machine.ensures in
    record { sound = e.sound; done = first_done_lem _ e.machine; page = refl }
