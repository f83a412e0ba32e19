use Rattle.std.proofs.Common.{Some, rules}
use Rattle.gl_run.specs.Replies.{ReplyCause}
use Rattle.gl_run.specs.declared.words.Command.TheVariants as commands
use Rattle.gl_run.proofs.reply.reply.Goals as goal

-- a load reads nothing, so the count of the source's faults stays
pub returns-in-Some-Load-clause-cause : goal.returns-in-Some-Load-clause-cause
returns-in-Some-Load-clause-cause g c =
    let faults = g.S.Source.faults c.args.source.now in
    let cause : ReplyCause (Some (commands.Load c.in-Some-Load.options)) faults faults c.load_reply.result =
    c.load_reply.ensures.cause faults in
    search rules
