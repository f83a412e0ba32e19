use Rattle.gl_run.proofs.LongPrograms.{load_page, mapped}
use Rattle.gl_run.proofs.reply.load_reply.Goals as goal

pub returns-clause-page : goal.returns-clause-page
returns-clause-page g c = λ keep left.
    load_page c.args.options keep left c.map_err.result
    (mapped _ _ c.load.result c.map_err.result c.map_err.ensures.cases c.map_err.ensures.variant c.load.ensures.answer)
