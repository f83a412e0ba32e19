use Rattle.gl_threads.proofs.Layouts.{starts_below}
use Rattle.gl_riders.proofs.Few.{few_classes}
use Rattle.gl_threads.proofs.layout.layout_of.Goals as goal

pub classes_of-requires : goal.classes_of-requires
classes_of-requires c = few_classes c.args.program.now c.main-main.ensures.faultless

pub returns-clause-starts : goal.returns-clause-starts
returns-clause-starts c = rw c.in_ok-starts_of.ensures (starts_below c.args.program.now c.main-main.ensures.faultless)
