-- `session::close` meets its contract.
use Rattle.session.proofs.Showing.{close_wave, close_other}
use Rattle.session.proofs.close.Goals as goal

pub returns-then-p-eq-WAVE : goal.returns-then-p-eq-WAVE
returns-then-p-eq-WAVE g c =
    let a = c.args in
    let rest_of_it = close_wave a.p a.out.now c.if-p-eq-WAVE.true _ _ _ _ c.put_count-end.ensures.bytes c.turn-page.ensures.page c.write.ensures.page in
    record { page = rest_of_it.0; bytes = rest_of_it.1 }

pub returns : goal.returns
returns g c =
    let a = c.args in
    let rest_of_it = close_other a.p a.out.now c.if-p-eq-WAVE.false _ c.write-2.ensures.page in
    record { page = rest_of_it.0; bytes = rest_of_it.1 }
