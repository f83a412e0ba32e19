use Rattle.std.proofs.Common.{sym, subst, Bool, false}
use Rattle.gl_table.specs.PassView.{Own}
use Rattle.gl_riders.specs.Owing.{AreKept}
use Rattle.gl_riders.specs.Riding.{Rides}
use Rattle.gl_threads.specs.Aboard.{AboardBy}
use Rattle.gl_threads.proofs.rider.go_ahead.Goals as goal

pub advance-requires-clause-kept : goal.advance-requires-clause-kept
advance-requires-clause-kept g c κs lives =
    let r = c.args.rider.now.thread in
    let by : Bool → Type 0 = λ h. AboardBy h c.args.run.now.program.now c.args.run.now.table.now.id r.machine r.pass r.txn r.words in
    let both : AboardBy false c.args.run.now.program.now c.args.run.now.table.now.id r.machine r.pass r.txn r.words =
    subst by c.requires.out c.requires.aboard.0 in
    let at : Own → Type 0 = λ v. AreKept r.txn r.words v in
    subst at (sym c.is_stopped.ensures) both.1

pub advance-requires-clause-rides : goal.advance-requires-clause-rides
advance-requires-clause-rides g c κs lives =
    let r = c.args.rider.now.thread in
    let by : Bool → Type 0 = λ h. AboardBy h c.args.run.now.program.now c.args.run.now.table.now.id r.machine r.pass r.txn r.words in
    let both : AboardBy false c.args.run.now.program.now c.args.run.now.table.now.id r.machine r.pass r.txn r.words =
    subst by c.requires.out c.requires.aboard.0 in
    let at : Own → Type 0 = λ v. Rides c.args.run.now.program.now c.args.run.now.table.now.id r.machine v r.txn in
    subst at (sym c.is_stopped.ensures) both.0
