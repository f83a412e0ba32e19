use Rattle.std.proofs.Common.{◌≡◌, sym, ◌∙◌, Some, None}
use Rattle.gl_bytecode.specs.declared.ask.Ask.TheVariants.{TxEnd}
use Rattle.gl_riders.proofs.Trying.{attempt_may, end_kept, end_tried}
use Rattle.gl_riders.proofs.tries.try_end.Goals as goal

pub commit-requires : goal.commit-requires
commit-requires g c =
    let is : c.args.thread.now.txn ≡ Some c.in-Some.attempt = sym c.take.ensures.value ∙ c.in-Some.is in
    record {
      spare = c.requires.spare;
      window = c.requires.window;
      may =
          attempt_may c.args.run.now.program.now c.args.run.now.table.now c.args.thread.now.machine c.args.thread.now.pass c.args.thread.now.txn c.in-Some.attempt
          (TxEnd c.args.keep) is
          c.requires.asked tt c.requires.rides c.requires.clear;
    }

pub returns-in-Ok-clause-answered : goal.returns-in-Ok-clause-answered
returns-in-Ok-clause-answered g c =
    let is : c.args.thread.now.txn ≡ Some c.in-Some.attempt = sym c.take.ensures.value ∙ c.in-Some.is in
    let none : c.take.new.self ≡ None = c.take.ensures.after in
    rw c.end_reply.ensures
    (end_tried c.args.run.now.program.now c.args.run.now.table.now c.args.thread.now.machine c.args.thread.now.pass.own c.commit.new.pass.own c.args.thread.now.txn
    c.take.new.self
    c.in-Some.attempt c.args.keep c.in-Ok.end c.requires.asked is none c.requires.rides c.in-Ok.ensures.done)

pub returns-in-Ok-clause-kept : goal.returns-in-Ok-clause-kept
returns-in-Ok-clause-kept g c =
    end_kept c.args.thread.now.pass.own c.commit.new.pass.own c.take.new.self c.in-Some.attempt c.args.keep c.in-Ok.end c.requires.clear
    c.in-Ok.ensures.done
