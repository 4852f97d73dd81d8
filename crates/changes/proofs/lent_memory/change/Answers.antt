-- `changes::lent_memory::change` meets its contract, by the command's name.
use Rattle.changes.proofs.lent_memory.Cases.{change_memory, change_poke, change_fill, change_other}
use mathlib.Core.Path.{refl}
use native.Mathlib.Omega.{arith}
use borrow.Author.Rules.{rules}
use Rattle.changes.proofs.lent_memory.change.Goals as goal

pub returns-in-2 : goal.returns-in-2
returns-in-2 c =
    let e = change_memory c.args.c c.args.before _ _ c.in-2.is c.fill.ensures.bytes in
    record { room = search rules; lent = e.0; bytes = e.1 }

pub returns-in-3 : goal.returns-in-3
returns-in-3 c =
    let e = change_poke c.args.c c.args.before _ _ (λ h. omega (arith, h, c.in-3.is)) c.in-3.is c.poked.ensures.bytes in
    record { room = search rules; lent = e.0; bytes = e.1 }

pub returns-in-4 : goal.returns-in-4
returns-in-4 c =
    let is = c.in-4.is in
    let e = change_fill c.args.c c.args.before _ _ (λ h. omega (arith, h, is)) is c.filled.ensures.bytes in
    record { room = search rules; lent = e.0; bytes = e.1 }

pub returns-in_default : goal.returns-in_default
returns-in_default c =
    let n = c.in_default in
    let e = change_other c.args.c c.args.before _ _ (λ h. omega (arith, h, n)) (λ h. omega (arith, h, n)) (λ h. omega (arith, h, n)) refl in
    record { room = refl; lent = e.0; bytes = e.1 }
