-- `session::do_command` meets its contract: ticks that are shown are a run's, and any other command does its own.
use mathlib.Core.Path.{sym, ◌∙◌}
use Rattle.session.proofs.Laws.{shown_does}
use Rattle.session.proofs.Showing.{leaves, command_ticks, command_result}
use Rattle.session.proofs.do_command.Goals as goal

pub returns-then-shows_ticks : goal.returns-then-shows_ticks
returns-then-shows_ticks g c =
    let a = c.args in
    let k = c.shows_ticks.ensures.shown in
    let t = c.ticks.ensures in
    let e = shown_does a.c a.d.done.machine a.d.done.memory _ _ _ c.lent-lent.ensures.bytes _ c.ticks_of.ensures.ticks a.d.page.form (sym k ∙ c.if-shows_ticks.true) _ t.done in
    let s = command_ticks a.d.page a.c a.d.done a.memory.now a.picture.now a.out.now _ k c.if-shows_ticks.true _ c.lent-lent.ensures.bytes _ c.ticks_of.ensures.ticks in
    let rest_of_it = leaves _ _ s _ _ (t.page, t.bytes) in
    record { done = e.0; memory = e.1.0; picture = e.1.1; sound = t.sound; page = rest_of_it.0; bytes = rest_of_it.1 }

pub show_result-page-requires : goal.show_result-page-requires
show_result-page-requires g c = c.apply-done.ensures.sound

pub returns : goal.returns
returns g c =
    let a = c.args in
    let t = c.apply-done.ensures in
    let s = command_result a.d.page a.c a.d.done a.memory.now a.picture.now a.out.now _ c.shows_ticks.ensures.shown c.if-shows_ticks.false _ t.done _ t.picture in
    let rest_of_it = leaves _ _ s _ _ (c.show_result-page.ensures.page, c.show_result-page.ensures.bytes) in
    record { done = t.done; memory = t.memory; picture = t.picture; sound = t.sound; page = rest_of_it.0; bytes = rest_of_it.1 }
