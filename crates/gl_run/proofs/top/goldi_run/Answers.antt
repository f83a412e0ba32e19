use Rattle.std.proofs.Common.{map, refl, string_bytes, subst, Err}
use Rattle.gl_run.specs.Command.{HasLeft}
use Rattle.gl_run.specs.Words.{run_command_of}
use Rattle.gl_run.specs.declared.keep.Keep.TheVariants.{Record}
use Rattle.gl_run.specs.declared.page.Stop.TheVariants.{Memory}
use Rattle.gl_run.proofs.Finished.{left_of, written_of}
use Rattle.gl_run.proofs.top.goldi_run.Goals as goal

pub returns-in-Err-clause-written : goal.returns-in-Err-clause-written
returns-in-Err-clause-written g c =
    let count = g.S.Source.faults c.args.source.now in
    let faults = g.K.Sink.faults in
    let written = g.K.Sink.written in
    written_of Record (run_command_of (map string_bytes c.args.words.now)) (g.S.Source.left c.args.source.now) count count
    (faults c.args.sink.now)
    (faults c.finish.new.sink) (written c.args.sink.now) (written c.finish.new.sink) (Err Memory) c.finish.result refl tt c.finish.ensures

pub returns-clause-left : goal.returns-clause-left
returns-clause-left g c =
    let left = g.S.Source.left c.args.source.now in
    let now = g.S.Source.left c.reply-reply.new.source in
    let faults = g.K.Sink.faults in
    let written = g.K.Sink.written in
    let replied = c.reply-reply.ensures in
    subst (λ asked. HasLeft asked left now c.finish-2.result.status) c.in-Ok.ensures.value
    (left_of c.in-Ok.asked left now (faults c.args.sink.now) (faults c.finish-2.new.sink) (written c.args.sink.now)
    (written c.finish-2.new.sink) c.reply-reply.result c.finish-2.result
    replied.unread replied.accepted replied.read c.finish-2.ensures)
