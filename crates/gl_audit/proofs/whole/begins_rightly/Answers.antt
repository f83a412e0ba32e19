use Rattle.gl_model.specs.Lists.{lists_of}
use Rattle.gl_audit.proofs.Begins.{begins_are_right}
use Rattle.gl_audit.proofs.whole.begins_rightly.Goals as goal

pub returns : goal.returns
returns c =
    begins_are_right c.args.program.now c.args.inputs.now (lists_of c.args.made.now) c.main-main.ensures.valid c.requires
