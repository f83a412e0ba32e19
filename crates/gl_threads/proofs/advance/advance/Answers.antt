use Rattle.std.proofs.Common.{◌∙◌, sym, subst, ℕ, ap}
use Rattle.gl_table.specs.PassView.{Own, PassView}
use Rattle.gl_riders.specs.Riding.{Rides}
use Rattle.gl_threads.specs.Aboard.{IsFinished}
use Rattle.gl_threads.proofs.Stepping.{ends_over, home_over}
use Rattle.gl_threads.proofs.advance.advance.Goals as goal

pub go_on-requires : goal.go_on-requires
go_on-requires g c =
    let at : Own → Type 0 = λ v. Rides c.args.run.now.program.now c.args.run.now.table.now.id c.args.thread.now.machine v c.args.thread.now.txn in
    record { rides = subst at (sym (ap (λ (v : PassView). v.own) c.in_ok-reserve.ensures.own)) c.requires.rides }

pub over-requires-clause-ends : goal.over-requires-clause-ends
over-requires-clause-ends g c =
    ends_over c.args.run.now.program.now c.args.run.now.table.now.id c.go_on.new.machine c.reserve.new.self.own c.args.thread.now.txn c.in-Over.ending
    c.go_on.ensures.rides (sym c.in-Over.is ∙ c.asked.ensures.value)

pub returns-in-Over-clause-home : goal.returns-in-Over-clause-home
returns-in-Over-clause-home g c =
    let at : ℕ → Type 0 = λ n. IsFinished c.args.run.now.program.now n c.args.run.now.table.now.id c.over.new.self in
    subst at c.go_on.ensures.limit
    (home_over c.args.run.now.program.now c.args.run.now.table.now.id c.go_on.new.machine c.reserve.new.self.own c.over.new.self c.args.thread.now.txn
    c.in-Over.ending
    c.go_on.ensures.rides (ap (λ (v : PassView). v.own) c.over.ensures) (sym c.in-Over.is ∙ c.asked.ensures.value))
