use Rattle.gl_model.specs.Lists.{lists_of}
use Rattle.gl_pages.proofs.LawfulRuns.{begins_right_in}
use Rattle.gl_pages.proofs.run.Run.new.Goals as goal

pub makers_of-requires-clause-begins : goal.makers_of-requires-clause-begins
makers_of-requires-clause-begins c =
    let a = c.args.audited.now in
    begins_right_in a.program a.inputs a.steps (lists_of a.record) c.requires.lawful c.main-main.ensures.valid
