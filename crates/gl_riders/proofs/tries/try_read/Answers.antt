use Rattle.std.proofs.Common.{refl, FitsSigned, w64, rules}
use Rattle.std.proofs.lemmas.Int.{to_z-of_z}
use Rattle.std.specs.Prelude.{None}
use Rattle.gl_bytecode.specs.declared.ask.Ask.TheVariants.{Read}
use Rattle.gl_txn.specs.Attempts.{IsTooLarge}
use Rattle.gl_riders.proofs.Trying.{attempt_may, large_tried, read_owed, read_tried, within_kept}
use Rattle.gl_riders.proofs.tries.try_read.Goals as goal

pub read-requires-clause-may : goal.read-requires-clause-may
read-requires-clause-may c =
    attempt_may c.args.run.now.program.now c.args.run.now.table.now c.args.thread.now.machine c.args.thread.now.pass c.args.thread.now.txn c.in-Some.attempt (Read c.args.var)
    c.in-Some.is
    c.requires.asked tt c.requires.rides c.requires.clear

pub returns-in-Ok-clause-answered : goal.returns-in-Ok-clause-answered
returns-in-Ok-clause-answered c =
    let fits : FitsSigned w64 c.in-Ok.value = search rules in
    simp to_z-of_z
    (read_tried c.args.run.now.program.now c.args.run.now.table.now c.args.thread.now.machine c.args.thread.now.pass.own c.read.new.pass.own c.args.thread.now.txn _
    c.in-Some.attempt c.read.new.self
    c.args.var c.in-Ok.value c.in-Some.is refl c.requires.rides c.in-Ok.ensures.done)

pub returns-in-Err-TooLarge-clause-answered : goal.returns-in-Err-TooLarge-clause-answered
returns-in-Err-TooLarge-clause-answered c =
    let large : IsTooLarge c.in-Some.attempt c.args.var = rw c.in-Err-TooLarge.field-0-is at c.in-Err-TooLarge.ensures.large in
    large_tried c.args.run.now.program.now c.args.run.now.table.now c.args.thread.now.machine c.args.thread.now.pass.own c.read.new.pass.own c.args.thread.now.txn _
    c.in-Some.attempt c.read.new.self
    c.args.var None c.in-Some.is refl c.in-Err-TooLarge.ensures.stop c.requires.rides c.in-Err-TooLarge.ensures.kept large

pub returns-in-Ok-clause-kept : goal.returns-in-Ok-clause-kept
returns-in-Ok-clause-kept c =
    within_kept c.args.thread.now.pass.own c.read.new.pass.own _ c.read.new.self refl c.requires.clear
    (read_owed c.args.thread.now.pass.own c.read.new.pass.own c.in-Some.attempt c.read.new.self c.args.var _ c.in-Ok.ensures.done)
