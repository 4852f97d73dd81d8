-- `session::do_line` meets its contract: a line that is skipped or at fault leaves all as it was, any other what its command leaves.
use Rattle.session.proofs.Laws.{skipped_leaves, faulty_leaves, good_leaves}
use Rattle.session.proofs.Showing.{leaves, line_skipped, line_good, line_faulty}
use mathlib.Core.Path.{refl}
use Rattle.session.proofs.do_line.Goals as goal

pub returns-then-is_skipped : goal.returns-then-is_skipped
returns-then-is_skipped g c =
    let a = c.args in
    let e = skipped_leaves a.line.now a.d.done a.memory.now a.picture.now _ c.is_skipped.ensures.test c.if-is_skipped.true in
    let q = line_skipped a.line.now a.d.page a.d.done a.memory.now a.picture.now a.out.now _ c.next_line-page.ensures.page _ c.is_skipped.ensures.test c.if-is_skipped.true in
    let rest_of_it = leaves _ _ q _ _ (refl, refl) in
    record { done = e.0; memory = e.1.0; picture = e.1.1; sound = c.requires; page = rest_of_it.0; bytes = rest_of_it.1 }

pub returns-then-c-eq0 : goal.returns-then-c-eq0
returns-then-c-eq0 g c =
    let a = c.args in
    let t = c.do_command.ensures in
    let e = good_leaves a.line.now a.d.done a.memory.now a.picture.now _ c.is_skipped.ensures.test c.if-is_skipped.false _ c.line_command-c.ensures.command c.if-c-eq0.true _ _ _ (t.done, (t.memory, t.picture)) in
    let q = line_good a.line.now a.d.page a.d.done a.memory.now a.picture.now a.out.now _ c.next_line-page.ensures.page _ c.is_skipped.ensures.test c.if-is_skipped.false _ c.line_command-c.ensures.command c.if-c-eq0.true in
    let rest_of_it = leaves _ _ q _ _ (t.page, t.bytes) in
    record { done = e.0; memory = e.1.0; picture = e.1.1; sound = t.sound; page = rest_of_it.0; bytes = rest_of_it.1 }

pub returns : goal.returns
returns g c =
    let a = c.args in
    let e = faulty_leaves a.line.now a.d.done a.memory.now a.picture.now _ c.is_skipped.ensures.test c.if-is_skipped.false _ c.line_command-c.ensures.command c.if-c-eq0.false in
    let q = line_faulty a.line.now a.d.page a.d.done a.memory.now a.picture.now a.out.now _ c.next_line-page.ensures.page _ c.is_skipped.ensures.test c.if-is_skipped.false _ c.line_command-c.ensures.command c.if-c-eq0.false in
    let rest_of_it = leaves _ _ q _ _ (c.fault-page.ensures.page, c.fault-page.ensures.bytes) in
    record { done = e.0; memory = e.1.0; picture = e.1.1; sound = c.requires; page = rest_of_it.0; bytes = rest_of_it.1 }
