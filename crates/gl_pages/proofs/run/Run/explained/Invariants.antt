use Rattle.std.proofs.Common.{take}
use Rattle.gl_pages.proofs.Telling.{AreTold}
use Rattle.gl_pages.proofs.run.Run.explained.Given as goal

abbrev pub invariant-loop-cause : goal.invariant-loop-cause
invariant-loop-cause l = AreTold l.self (take l.cause-index l.cause-items) l.explained.items
