-- `changes::apply` meets its contract, by its kind.
use Rattle.changes.proofs.Laws.{does_write, does_run, does_draw, does_change}
use Rattle.changes.proofs.apply.Goals as goal

pub returns-in-WritesRegister : goal.returns-in-WritesRegister
returns-in-WritesRegister c =
    let a = c.args in
    let e = does_write a.c a.m a.lent _ _ c.in-WritesRegister.ensures.kind _ c.write.ensures.done in
    record { done = e.0; memory = e.1.0; picture = e.1.1; sound = c.write.ensures.sound }

pub returns-in-RunsTicks : goal.returns-in-RunsTicks
returns-in-RunsTicks c =
    let a = c.args in
    let e = does_run a.c a.m a.lent _ _ c.in-RunsTicks.ensures.kind _ c.ticks_of.ensures.ticks _ c.run.ensures.done in
    record { done = e.0; memory = e.1.0; picture = e.1.1; sound = c.run.ensures.sound }

pub returns-in-DrawsPicture : goal.returns-in-DrawsPicture
returns-in-DrawsPicture c =
    let a = c.args in
    let d = c.draw_wanted.ensures in
    let e = does_draw a.c a.m a.lent _ _ c.in-DrawsPicture.ensures.kind _ _ d.done d.bytes in
    record { done = e.0; memory = e.1.0; picture = e.1.1; sound = d.sound }

pub returns-in-ChangesMemory : goal.returns-in-ChangesMemory
returns-in-ChangesMemory c =
    let a = c.args in
    let k = c.change-bytes.ensures in
    let e = does_change a.c a.m a.lent _ _ _ c.kind_of.ensures.kind _ _ k.lent k.bytes c.in-ChangesMemory.is in
    record { done = e.0; memory = e.1.0; picture = e.1.1; sound = c.requires }
