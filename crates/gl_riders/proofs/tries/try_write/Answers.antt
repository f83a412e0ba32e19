use Rattle.std.proofs.Common.{refl, FitsSigned, w64, rules}
use Rattle.std.proofs.lemmas.Int.{to_z-of_z}
use Rattle.std.specs.Prelude.{Some}
use Rattle.gl_txn.specs.Attempts.{IsTooLarge}
use Rattle.gl_riders.proofs.Trying.{large_tried, write_tried}
use Rattle.gl_riders.proofs.tries.try_write.Goals as goal

pub returns-in-Ok-clause-answered : goal.returns-in-Ok-clause-answered
returns-in-Ok-clause-answered c =
    let fits : FitsSigned w64 c.args.value = search rules in
    write_tried c.args.run.now.program.now c.args.run.now.table.now c.args.thread.now.machine c.args.thread.now.pass.own c.args.thread.now.txn _ c.in-Some.attempt
    c.write.new.self
    c.args.var c.args.value c.in-Some.is refl c.requires.rides (simp to_z-of_z at c.in-Ok.ensures.done) c.in-Ok.ensures.room

pub returns-in-Err-TooLarge-clause-answered : goal.returns-in-Err-TooLarge-clause-answered
returns-in-Err-TooLarge-clause-answered c =
    let large : IsTooLarge c.in-Some.attempt c.args.var = c.in-Err-TooLarge.ensures.large.1 in
    large_tried c.args.run.now.program.now c.args.run.now.table.now c.args.thread.now.machine c.args.thread.now.pass.own c.args.thread.now.pass.own c.args.thread.now.txn _
    c.in-Some.attempt c.write.new.self
    c.args.var (Some c.args.value) c.in-Some.is refl c.in-Err-TooLarge.ensures.stop c.requires.rides refl large
