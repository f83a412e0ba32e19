use Rattle.gl_riders.proofs.Trying.{event_kept, event_may, event_tried}
use Rattle.gl_riders.proofs.tries.try_event.Goals as goal

pub event-requires-clause-may : goal.event-requires-clause-may
event-requires-clause-may c =
    event_may c.args.run.now.program.now c.args.run.now.table.now c.args.thread.now.machine c.args.thread.now.pass c.args.thread.now.txn c.args.ask c.requires.asked
    c.requires.rides
    c.requires.clear c.requires.spare c.requires.event

pub returns-in-Ok-clause-answered : goal.returns-in-Ok-clause-answered
returns-in-Ok-clause-answered c =
    rw c.reply_of.ensures
    (event_tried c.args.run.now.program.now c.args.run.now.table.now c.args.thread.now.machine c.args.thread.now.pass.own c.event.new.pass.own c.args.thread.now.txn c.args.ask
    c.in-Ok.done
    c.requires.asked c.requires.set c.requires.rides c.requires.event c.in-Ok.ensures.done c.in-Ok.ensures.entry)

pub returns-in-Ok-clause-kept : goal.returns-in-Ok-clause-kept
returns-in-Ok-clause-kept c = event_kept c.args.thread.now.txn c.args.thread.now.pass.own c.event.new.pass.own c.args.ask c.in-Ok.done c.requires.clear
    c.in-Ok.ensures.entry
