-- `session::show_result` meets its contract, by the command's kind.
use Rattle.session.proofs.Showing.{leaves, result_run, result_picture, result_answer, result_verdict}
use Rattle.session.proofs.show_result.Goals as goal

pub returns-in-RunsTicks : goal.returns-in-RunsTicks
returns-in-RunsTicks g c =
    let a = c.args in
    let e = result_run a.p a.c a.done a.picture.now a.out.now c.in-RunsTicks.ensures.kind in
    let rest_of_it = leaves _ _ e _ _ (c.show_run.ensures.page, c.show_run.ensures.bytes) in
    record { page = rest_of_it.0; bytes = rest_of_it.1 }

pub returns-in-DrawsPicture : goal.returns-in-DrawsPicture
returns-in-DrawsPicture g c =
    let a = c.args in
    let e = result_picture a.p a.c a.done a.picture.now a.out.now c.in-DrawsPicture.ensures.kind in
    let rest_of_it = leaves _ _ e _ _ (c.show_picture.ensures.page, c.show_picture.ensures.bytes) in
    record { page = rest_of_it.0; bytes = rest_of_it.1 }

pub returns-in-OnlyAsks : goal.returns-in-OnlyAsks
returns-in-OnlyAsks g c =
    let a = c.args in
    let e = result_answer a.p a.c a.done a.picture.now a.out.now c.in-OnlyAsks.ensures.kind in
    let rest_of_it = leaves _ _ e _ _ (c.answer.ensures.page, c.answer.ensures.bytes) in
    record { page = rest_of_it.0; bytes = rest_of_it.1 }

pub returns-in-WritesRegister : goal.returns-in-WritesRegister
returns-in-WritesRegister g c =
    let a = c.args in
    let e = result_verdict a.p a.c a.done a.picture.now a.out.now _ c.kind_of.ensures.kind c.in-WritesRegister.is in
    let rest_of_it = leaves _ _ e _ _ (c.verdict.ensures.page, c.verdict.ensures.bytes) in
    record { page = rest_of_it.0; bytes = rest_of_it.1 }
