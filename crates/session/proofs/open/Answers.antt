-- `session::open` meets its contract.
use Rattle.session.proofs.Showing.{open_wave, open_other}
use Rattle.session.proofs.open.Goals as goal

pub returns-then-form-eq-WAVE : goal.returns-then-form-eq-WAVE
returns-then-form-eq-WAVE c =
    let a = c.args in
    let h = c.put_head-end.ensures in
    let rest_of_it = open_wave a.form a.out.now _ c.blank_page-page.ensures.page c.if-form-eq-WAVE.true _ _ _ h.place h.bytes c.turn.ensures.page in
    record { page = rest_of_it.0; bytes = rest_of_it.1 }

pub returns : goal.returns
returns c =
    let a = c.args in
    let rest_of_it = open_other a.form a.out.now _ c.blank_page-page.ensures.page c.if-form-eq-WAVE.false in
    record { page = rest_of_it.0; bytes = rest_of_it.1 }
