use Rattle.std.proofs.Common.{◌∙◌}
use Rattle.gl_riders.proofs.Trying.{access_near, access_tried, mark, outside_owns, owns_outside}
use Rattle.gl_riders.proofs.tries.try_plain.Goals as goal

pub plain-requires : goal.plain-requires
plain-requires g c = record {
  may =
      mark c.args.run.now.program.now c.args.run.now.table.now c.args.thread.now.machine c.args.thread.now.pass c.args.thread.now.txn c.args.wanted.var c.args.wanted.write c.requires.asked
      c.requires.rides
      c.requires.outside c.requires.spare;
  there = access_near c.args.run.now.program.now c.args.run.now.table.now c.args.thread.now.machine c.args.thread.now.pass.own c.args.thread.now.txn c.args.wanted.var c.args.wanted.write
      c.requires.asked c.requires.rides;
  owns = outside_owns c.args.thread.now.pass.own c.args.thread.now.txn c.args.thread.now.words c.requires.outside c.requires.kept;
  window = c.requires.window;
}

pub returns-in-Ok-clause-answered : goal.returns-in-Ok-clause-answered
returns-in-Ok-clause-answered g c =
    rw (c.access_reply.ensures, c.plain.ensures.txn)
    (access_tried c.args.run.now.program.now c.args.run.now.table.now c.args.thread.now.machine c.args.thread.now.pass.own c.plain.new.thread.pass.own c.args.thread.now.txn
    c.args.wanted.var c.args.wanted.write
    c.in-Ok.seen c.requires.asked c.requires.rides c.requires.outside c.in-Ok.ensures.done)

pub returns-in-Ok-clause-kept : goal.returns-in-Ok-clause-kept
returns-in-Ok-clause-kept g c = owns_outside c.plain.new.thread.pass.own c.plain.new.thread.txn c.plain.new.thread.words (c.plain.ensures.txn ∙ c.requires.outside)
    c.plain.ensures.owns

pub returns-in-Err-clause-kept : goal.returns-in-Err-clause-kept
returns-in-Err-clause-kept g c = owns_outside c.plain.new.thread.pass.own c.plain.new.thread.txn c.plain.new.thread.words (c.plain.ensures.txn ∙ c.requires.outside)
    c.plain.ensures.owns
