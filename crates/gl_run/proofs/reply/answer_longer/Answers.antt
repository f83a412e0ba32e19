use Rattle.gl_run.proofs.LongPrograms.{longer}
use Rattle.gl_run.proofs.reply.answer_longer.Goals as goal

pub returns-clause-answer : goal.returns-clause-answer
returns-clause-answer c = longer c.args.command c.refused.result c.refused.ensures.status c.refused.ensures.text c.refused.ensures.kept
