-- `calls::run` meets its contract: ticks to a frame's start, and on from there; the registers are their numbers and their three tables.
use Rattle.std.proofs.Common.{◌≡◌, ◌+◌, ◌-◌, ℕ, Bool, ◌&&◌, List, subst}
use borrow.Author.Tests.{eqb-true}
use lib.Dec.{eqb}
use Rattle.base.proofs.Bools.{both_hold}
use Rattle.registers.specs.File.{file_with}
use Rattle.registers.specs.declared.Registers.{Registers}
use Rattle.generator.specs.declared.Generator.{Generator}
use Rattle.generator.specs.declared.Went.{Went}
use Rattle.calls.specs.Calls.{ran_of}
use Rattle.calls.specs.Runs.{machine_of, Part, Exactly}
use Rattle.calls.specs.declared.Ran.{Ran}
use Rattle.calls.proofs.Frames.{run_joined}
use Rattle.calls.proofs.run.Goals as goal

-- what is known of registers is known of the same registers put together
joined : (r other : Registers) → r ≡ other → (memory : List ℕ) (g : Generator) (count : ℕ) (halts : Bool) (way : Went) → Part r memory g count halts way →
    (halts && eqb way.refusal 0) ≡ Bool.true → (rest : Went) → Exactly r memory way.next (count - way.done) rest →
    ◌≡◌ {A = Ran} (record { done = way.done + rest.done; refusal = rest.refusal; machine = machine_of other rest.next }) (ran_of memory (machine_of other g) count)
joined r other e memory g count halts way p t rest q =
    subst (λ (x : Registers). ◌≡◌ {A = Ran} (record { done = way.done + rest.done; refusal = rest.refusal; machine = machine_of x rest.next }) (ran_of memory (machine_of x g) count)) e
    (run_joined r memory g count halts way rest p (eqb-true way.refusal 0 (both_hold halts (eqb way.refusal 0) t).1) q)

pub returns-then-runs-way-clause-ran : goal.returns-then-runs-way-clause-ran
returns-then-runs-way-clause-ran c =
    let t = c.tables-tables.ensures.tables in
    let same : file_with c.numbers-n.result c.tables-tables.result ≡ c.args.m.regs = rw (c.numbers-n.ensures.numbers, t.0, t.1, t.2) in
    joined _ _ same _ _ _ _ _ c.steps-way.ensures.part c.if-runs-way.true _ c.from_start-rest.ensures.ran
